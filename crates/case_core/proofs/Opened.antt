-- A case that begins on a version is what a case keeps.
use Rattle.case_core.proofs.Common.{[], ◌<◌, ◌^◌, ◌∙◌, ◌≡◌, ap, applied, arith, cards_of, IsChecked, IsLive, IsTimedOn, length, List, Live, no_trail, Ok, Op, refl, subst, sym, TellsItems, VersionModel}
use Rattle.wsm_settle.specs.declared.timing.TimedMarks.TheVariants as timed

pub opened-live : (v : VersionModel) (l : Live) → l.base ≡ v → l.own ≡ [] → l.now.value ≡ v.schema → IsChecked l.now.value → IsTimedOn l.now.value [] (timed.Whole l.marks) → TellsItems (cards_of l.now.value) [] l.marks.rows l.items.rows → IsLive no_trail l
opened-live v l base own schema checked is items = (
  record {
    checked = checked;
    own = ap (λ (w : VersionModel). applied w.schema l.own) base ∙ ap (applied v.schema) own ∙ ap Ok (sym schema);
    few = subst (λ (os : List Op). length os < 2 ^ 32) (sym own) (omega arith);
    replays = is.0;
    rises = omega arith;
    once = refl;
  },
  (is.1, items),
)
