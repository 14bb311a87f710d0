-- Refusals, of which want of memory says nothing of the lists.
use Rattle.std.specs.Prelude.{◌≡◌, Option, Some}
use Rattle.wsm_commute.specs.{declared.refusals.MergeRefusal.MergeRefusal, declared.refusals.ManyRefusal.ManyRefusal}
use Rattle.wsm_commute.specs.declared.refusals.MergeRefusal.TheVariants as merge
use Rattle.wsm_commute.specs.declared.refusals.ManyRefusal.TheVariants as many

abbrev pub IsMergeRefusal : Option MergeRefusal → MergeRefusal → Type 0
IsMergeRefusal fault merge.NoMemory = Unit {0}
IsMergeRefusal fault refusal = fault ≡ Some refusal

abbrev pub IsManyRefusal : Option ManyRefusal → ManyRefusal → Type 0
IsManyRefusal fault many.NoMemory = Unit {0}
IsManyRefusal fault refusal = fault ≡ Some refusal
