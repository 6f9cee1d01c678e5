use Rattle.std.proofs.Common.{map}
use Rattle.std.specs.String.{string_bytes}
use Rattle.mbe_rewriter.specs.ReplacementViews.{part_of}
use Rattle.mbe_session.specs.FileViews.{source_of}
use Rattle.mbe_session.proofs.CrateLemmas.{file_there, no_file_there}
use Rattle.mbe_session.proofs.session.Session.file_text_at.Goals as goal

pub returns-in_ok-file_text-in-Some : goal.returns-in_ok-file_text-in-Some
returns-in_ok-file_text-in-Some c =
    file_there source_of string_bytes c.args.call (map part_of c.args.parts.now) c.args.self.now.files.items
    c.deref.result.now c.args.number c.in-Some.file.now c.in_ok-file_text-in-Some.field-0 c.deref.ensures.value
    c.in-Some.ensures.lookup.3.0 c.in-Some.ensures.lookup.1 c.in_ok-file_text-in-Some.ensures

pub returns-in-None : goal.returns-in-None
returns-in-None c =
    no_file_there source_of c.args.call (map part_of c.args.parts.now) c.args.self.now.files.items c.deref.result.now
    c.args.number c.deref.ensures.value c.in-None.ensures.lookup.3
