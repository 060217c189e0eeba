-- The calls of a run.
use Rattle.std.specs.Prelude.{List, [], ◌∷◌, ◌++◌, Option}
use Rattle.std.specs.List.{flat_map}
use Rattle.std.specs.Option.{option_to_list}
use Rattle.calls.specs.declared.call.Call.{Call}
use Rattle.calls.specs.declared.call.Call.TheVariants.{Open, Close}

-- what the good lines ask for
abbrev pub good : List (Option Call) → List Call
good ls = flat_map option_to_list ls

-- opening, what the good lines ask for, closing
abbrev pub run_of : List (Option Call) → List Call
run_of ls = Open ∷ (good ls ++ (Close ∷ []))
