use Rattle.std.proofs.Common.{vec_items, refl, ◌∙◌, arith}
use Rattle.std.proofs.ResultArms.{chosen}
use Rattle.messages.proofs.Places.{at_place, joined_held, joined_new}
use Rattle.messages.proofs.list.join_message.Goals as goal

pub returns-in-Some : goal.returns-in-Some
returns-in-Some g c =
    let at = at_place _ _ _ _ _ _ _ c.place_of-place.ensures.value c.from.ensures c.deref.ensures.value c.value_at.ensures.value c.deref-2.ensures.value in
    record {
      items = joined_held g.K.Kind.algebra c.args.arriving.key c.place_of-place.result c.args.arriving.value c.in-Some.held c.fold.result (vec_items c.args.messages.now) _ at c.in-Some.is c.fold.ensures.which;
      bound = omega arith;
      capacity = refl;
    }

pub returns-in-None : goal.returns-in-None
returns-in-None g c =
    let at = at_place _ _ _ _ _ _ _ c.place_of-place.ensures.value c.from.ensures c.deref.ensures.value c.value_at.ensures.value c.deref-2.ensures.value in
    let done = c.insert.ensures.succeeds c.requires in
    record {
      items = chosen _ _ _ _ c.insert.ensures.items done ∙ joined_new g.K.Kind.algebra c.args.arriving.key c.place_of-place.result c.args.arriving.value (vec_items c.args.messages.now) _ at c.in-None.is;
      bound = omega (arith, chosen _ _ _ _ c.insert.ensures.len done);
      capacity = (c.insert.ensures.in_place c.requires).1.0;
    }
