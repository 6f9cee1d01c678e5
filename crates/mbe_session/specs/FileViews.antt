-- What files and sessions hold, in any allocator.
use Rattle.std.specs.Prelude.{List, map}
use Rattle.std.specs.String.{string_bytes}
use Rattle.mbe_session.specs.CallTextViews.{call_of}
use Rattle.mbe_session.specs.Sources.{Source, Text}
use Rattle.mbe_session.specs.declared.source_files.SourceFile.{SourceFile}
use Rattle.mbe_session.specs.declared.session.NamedText.{NamedText}
use Rattle.mbe_session.specs.declared.session.Session.{Session}

abbrev pub source_of : {A : Type 0} → SourceFile A → Source
source_of f = record {
  path = f.name.now;
  text = f.text.now;
  calls = map call_of f.calls.now;
  tree = f.tree;
}

abbrev pub sources_of : Session → List Source
sources_of s = map source_of s.files.items

abbrev pub text_of : NamedText → Text
text_of n = record {
  path = string_bytes n.name;
  text = string_bytes n.text;
  calls = map call_of n.calls.items;
}
