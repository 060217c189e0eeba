use Rattle.std.proofs.Common.{vec_items, refl, ◌∙◌, arith}
use Rattle.std.proofs.ResultArms.{chosen}
use Rattle.messages.proofs.Places.{at_place, acted_replaced, acted_removed, acted_inserted, acted_nothing}
use Rattle.messages.proofs.list.apply_message.Goals as goal

pub returns-in-Some-Some : goal.returns-in-Some-Some
returns-in-Some-Some g c =
    let at = at_place _ _ _ _ _ _ _ c.place_of-place.ensures.value c.from.ensures c.deref.ensures.value c.value_at-held.ensures.value c.deref-2.ensures.value in
    record {
      items = acted_replaced g.K.Kind.algebra c.args.message.key c.place_of-place.result c.args.message.value (vec_items c.args.records.now) _ _ at c.apply.ensures _ _ c.in-Some-Some.is-0 c.in-Some-Some.is-1;
      bound = omega arith;
      capacity = refl;
    }

pub returns-in-Some-None : goal.returns-in-Some-None
returns-in-Some-None g c =
    let at = at_place _ _ _ _ _ _ _ c.place_of-place.ensures.value c.from.ensures c.deref.ensures.value c.value_at-held.ensures.value c.deref-2.ensures.value in
    record {
      items = c.remove.ensures.items ∙ acted_removed g.K.Kind.algebra c.args.message.key c.place_of-place.result c.args.message.value (vec_items c.args.records.now) _ _ at c.apply.ensures _ c.in-Some-None.is-0 c.in-Some-None.is-1;
      bound = omega (arith, c.remove.ensures.len);
      capacity = c.remove.ensures.capacity;
    }

pub returns-in-None-Some : goal.returns-in-None-Some
returns-in-None-Some g c =
    let at = at_place _ _ _ _ _ _ _ c.place_of-place.ensures.value c.from.ensures c.deref.ensures.value c.value_at-held.ensures.value c.deref-2.ensures.value in
    let done = c.insert.ensures.succeeds c.requires in
    record {
      items = chosen _ _ _ _ c.insert.ensures.items done ∙ acted_inserted g.K.Kind.algebra c.args.message.key c.place_of-place.result c.args.message.value (vec_items c.args.records.now) _ _ at c.apply.ensures _ c.in-None-Some.is-0 c.in-None-Some.is-1;
      bound = omega (arith, chosen _ _ _ _ c.insert.ensures.len done);
      capacity = (c.insert.ensures.in_place c.requires).1.0;
    }

pub returns-in-None-None : goal.returns-in-None-None
returns-in-None-None g c =
    let at = at_place _ _ _ _ _ _ _ c.place_of-place.ensures.value c.from.ensures c.deref.ensures.value c.value_at-held.ensures.value c.deref-2.ensures.value in
    record {
      items = acted_nothing g.K.Kind.algebra c.args.message.key c.place_of-place.result c.args.message.value (vec_items c.args.records.now) _ _ at c.apply.ensures c.in-None-None.is-0 c.in-None-None.is-1;
      bound = omega arith;
      capacity = refl;
    }
