use Rattle.std.proofs.Common.{refl}
use Rattle.messages.proofs.examples.worked_examples_hold.Goals as goal

pub returns : goal.returns
returns c = record {
  adds_on_absent = refl;
  folded_adds_on_absent = refl;
  remove_then_add = refl;
  put_then_add = refl;
  add_then_put = refl;
  add_then_add = refl;
  day_put_then_add = refl;
  day_remove_then_add = refl;
  add_zero_on_absent = refl;
}
