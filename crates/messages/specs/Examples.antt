-- Worked examples of messages on one key.
use Rattle.std.specs.Prelude.{◌≡◌, pos, neg_ℤ, Some, None}
use Rattle.messages.specs.LatestDay.{latest_day_algebra}
use Rattle.messages.specs.Messages.{effect, fold}
use Rattle.messages.specs.Quantity.{quantity_algebra}
use Rattle.messages.specs.Words.{word}
use Rattle.messages.specs.declared.message.Message.TheVariants.{Put, Remove, Add}

pub record WorkedExamples : Type 0 where
  -- quantity: add 5, then add −7, on an absent key gives −2
  pub adds_on_absent :
      effect quantity_algebra (Add (word (neg_ℤ (pos 7)))) (effect quantity_algebra (Add (word (pos 5))) None) ≡ Some (word (neg_ℤ (pos 2)))
  -- and so does the one message that they fold into
  pub folded_adds_on_absent :
      effect quantity_algebra (fold quantity_algebra (Add (word (pos 5))) (Add (word (neg_ℤ (pos 7))))) None ≡ Some (word (neg_ℤ (pos 2)))
  -- quantity: remove, then add 5, is put 5
  pub remove_then_add : fold quantity_algebra Remove (Add 5) ≡ Put 5
  -- quantity: put 3, then add 4, is put 7
  pub put_then_add : fold quantity_algebra (Put 3) (Add 4) ≡ Put 7
  -- quantity: add 4, then put 3, is put 3
  pub add_then_put : fold quantity_algebra (Add 4) (Put 3) ≡ Put 3
  -- quantity: add 4, then add 5, is add 9
  pub add_then_add : fold quantity_algebra (Add 4) (Add 5) ≡ Add 9
  -- day: put 20, then add 15, is put 20
  pub day_put_then_add : fold latest_day_algebra (Put 20) (Add 15) ≡ Put 20
  -- day: remove, then add 15, is put 15
  pub day_remove_then_add : fold latest_day_algebra Remove (Add 15) ≡ Put 15
  -- add 0 on an absent key makes it present with 0
  pub add_zero_on_absent : effect quantity_algebra (Add 0) None ≡ Some 0
