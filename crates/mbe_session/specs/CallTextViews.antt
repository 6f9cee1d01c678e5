-- A call of a file and the text of its expansion, in any allocator.
use Rattle.std.specs.String.{string_bytes}
use Rattle.mbe_session.specs.CallModules as calls
use Rattle.mbe_session.specs.declared.call_modules.CallText.{CallText}

abbrev pub call_of : CallText → calls.CallText
call_of c = record { at = c.at; text = string_bytes c.text; is_followed = c.is_followed }
