-- What a call does is what its definition says, so its law holds of what it does.
use Rattle.std.proofs.Common.{◌≡◌, ℕ, ◌^◌, ◌<◌, ◌≤◌, List, length, Option, sym, ap, ◌∙◌, subst}
use Rattle.blocks.specs.Media.{most_blocks}
use Rattle.messages.specs.Algebra.{Algebra}
use Rattle.messages.specs.declared.entry.Entry.{Entry}
use Rattle.messages.specs.declared.message.Message.{Message}
use Rattle.plan.specs.Images.{Image, Try}
use Rattle.bridge.specs.Stored.{WordFits}
use Rattle.store_plan.specs.Contents.{Contents, Answer, Called}
use Rattle.store_plan.specs.Openings.{formatted, opened, opening, closed}
use Rattle.store_plan.specs.Pages.{PagedStore, page_refusal, paged_store}
use Rattle.store_plan.specs.Queries.{queried}
use Rattle.store_plan.specs.Updates.{update_refusal, update_check, updated_store}
use Rattle.store_laws.specs.Held.{root_of_tree}
use Rattle.store_laws.specs.LaidOut.{FormatLaidOut, OpenLaidOut, CheckLaidOut, UpdateLaidOut, QueryLaidOut, PageLaidOut, CloseLaidOut}
use Rattle.store_laws.specs.Laws.{UpdateOutcome, Answered, PageOutcome, Formatted, AtRest, StandsAgain}
use Rattle.store_laws.proofs.Laws.{update_law, query_law, page_law}
use Rattle.store_laws.proofs.Openings.{format_law, open_law, stands_again, close_law}

pub format_laid_out : (K : Algebra) (d : Image) (allowance : ℕ) (t : Try Image) → d.size ≤ most_blocks → t ≡ formatted K d allowance → FormatLaidOut K d allowance t
format_laid_out K d allowance t size_fits e sound blocks left = subst (Formatted K d) (sym e) (format_law K d sound blocks size_fits allowance left)

pub open_laid_out : (K : Algebra) (d : Image) (allowance : ℕ) (c : Contents) → c ≡ opening (opened K d allowance) → OpenLaidOut K d allowance c
open_laid_out K d allowance c e h rests left = subst (StandsAgain K d h) (sym e) (stands_again K d h (opened K d allowance) (open_law K d h rests allowance left))

pub check_laid_out : (K : Algebra) (c : Contents) (allowance : ℕ) (r : Answer (Unit {0})) → r ≡ update_check c c.root allowance → CheckLaidOut K c allowance r
check_laid_out K c allowance r e h holds = e ∙ ap (λ root. update_check c root allowance) holds.root_is

pub update_laid_out : (K : Algebra) (c : Contents) (allowance k : ℕ) (m : Message) (r : Called (Unit {0})) → k < 2 ^ 32 → WordFits m
    → r ≡ updated_store K c c.root allowance k m → UpdateLaidOut K c allowance k m r
update_laid_out K c allowance k m r key_fits word_fits e h holds =
    subst (λ s. UpdateOutcome K c h k m s (update_refusal (root_of_tree K h) c.image.size allowance)) (sym e) (update_law K c h holds allowance k m key_fits word_fits)

pub query_laid_out : (K : Algebra) (c : Contents) (k : ℕ) (r : Called (Option ℕ × ℕ)) → k < 2 ^ 32 → r ≡ queried K c c.root k → QueryLaidOut K c k r
query_laid_out K c k r key_fits e h holds = subst (Answered K c h k) (sym e) (query_law K c h holds k key_fits)

pub page_laid_out : (K : Algebra) (c : Contents) (low high : ℕ) (table : List (Entry ℕ)) (r : PagedStore) → high < 2 ^ 32 → r ≡ paged_store K c c.root low high table
    → PageLaidOut K c low high table r
page_laid_out K c low high table r key_fits e h holds =
    subst (λ s. PageOutcome K c h low high table s (page_refusal low high (length table))) (sym e) (page_law K c h holds low high key_fits table)

pub close_laid_out : (K : Algebra) (c : Contents) (allowance : ℕ) (d : Image) → d ≡ closed c.image c.root allowance → CloseLaidOut K c allowance d
close_laid_out K c allowance d e h holds left = subst (AtRest K c h) (sym e) (close_law K c h holds allowance left)
