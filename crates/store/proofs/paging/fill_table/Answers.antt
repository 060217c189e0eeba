use Rattle.store_plan.specs.Pages.{no_entry}
use Rattle.store.proofs.Tables.{table_filled}
use Rattle.store.proofs.paging.fill_table.Goals as goal

pub returns : goal.returns
returns c =
    let zeros = c.fill.ensures.after (λ y same i. record { key = same.0 i; value = same.1 i }) in
    table_filled c.args.table.now c.args.entries.now c.copy_from_slice.new.self c.fill.new.self no_entry c.requires c.copy_from_slice.ensures.after zeros
