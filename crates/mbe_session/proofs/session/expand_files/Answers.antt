use Rattle.std.proofs.Common.{◌≡◌, arith, length, map, subst}
use Rattle.std.specs.String.{string_bytes}
use Rattle.mbe_rewriter.specs.ReplacementViews.{part_of}
use Rattle.mbe_session.specs.SessionViews.{setting_of, state_of}
use Rattle.mbe_session.specs.FileExpansion.{CratesParts, FilesExpand}
use Rattle.mbe_session.specs.FileViews.{source_of, sources_of}
use Rattle.mbe_session.proofs.session.expand_files.Goals as goal

pub returns : goal.returns
returns c =
    let session = c.in_ok-session.session in
    let e = setting_of session.expander in
    let s = state_of session.expander in
    let t = state_of c.crates_replacements.new.expander in
    let options = c.args.options.now in
    let parts = map part_of c.in_ok-parts.parts.items in
    let texts = map string_bytes c.in_ok-written.written.items in
    let n : c.len-root_count.result ≡ length options.names.items =
    omega (arith, c.len-root_count.ensures, options.names.ok.0) in
    record {
      files = sources_of session;
      setting = e;
      start = s;
      end = t;
      begins = c.in_ok-session.ensures;
      parts = parts;
      of_crates = subst (λ n. CratesParts e 1000 options.with_modules (sources_of session) s n parts t) n
          (subst (λ fs. CratesParts e 1000 options.with_modules (map source_of fs) s c.len-root_count.result parts t)
          c.deref.ensures.value c.in_ok-parts.ensures);
      files_expand = subst (λ ps. FilesExpand options.call (map part_of ps) (sources_of session) texts)
          c.as_slice.ensures.value
          (subst (λ fs. FilesExpand options.call (map part_of c.as_slice.result.now) (map source_of fs) texts)
          c.deref-2.ensures.value c.in_ok-written.ensures);
    }
