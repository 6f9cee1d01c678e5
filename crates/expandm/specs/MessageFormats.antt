-- The form of the diagnostics of a run.
use Rattle.std.specs.Prelude.{Bool, true, false, not, ◌&&◌, Option, Some, None}
use Rattle.mbe_session.specs.declared.emitter.MessageFormat.{MessageFormat}
use Rattle.mbe_session.specs.declared.emitter.MessageFormat.TheVariants.{Text, Colours, Brief}
use Rattle.mbe_session.specs.declared.emitter.MessageFormat.TheVariants.{Json}

-- The form of a run's diagnostics. It is JSON if that is asked for. Else it is rustc's style in a
-- terminal, and where calls are explained or definitions are linted. The brief form limits the
-- lines of each diagnostic. `None` is the short form.
abbrev pub format_for : (is_json is_brief is_explained is_terminal is_colourless : Bool)
    → Option MessageFormat
format_for true is_brief is_explained is_terminal is_colourless = Some Json
format_for false true is_explained is_terminal is_colourless =
    Some (Brief (is_terminal && not is_colourless))
format_for false false is_explained true false = Some Colours
format_for false false is_explained true true = Some Text
format_for false false true false is_colourless = Some Text
format_for false false false false is_colourless = None
