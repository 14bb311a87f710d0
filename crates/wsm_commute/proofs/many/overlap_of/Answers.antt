use Rattle.wsm_commute.proofs.{Common.{◌+◌, ◌∙◌, ap, arith, is_some, option_map, sym}, FirstPairs.{pair-within, pair-named}}
use Rattle.wsm_commute.specs.declared.refusals.ManyRefusal.TheVariants as many
use Rattle.wsm_commute.proofs.many.overlap_of.Goals as goal

pub offset_bounds-lists-one : goal.offset_bounds-lists-one
offset_bounds-lists-one c = let within = pair-within c.args.lists.now c.args.one c.args.other c.requires.found in omega (arith, within.0)

pub bounds-lists-one : goal.bounds-lists-one
bounds-lists-one c = (pair-within c.args.lists.now c.args.one c.args.other c.requires.found).0

pub offset_bounds-lists-other : goal.offset_bounds-lists-other
offset_bounds-lists-other c = let within = pair-within c.args.lists.now c.args.one c.args.other c.requires.found in omega (arith, within.1)

pub bounds-lists-other : goal.bounds-lists-other
bounds-lists-other c = (pair-within c.args.lists.now c.args.one c.args.other c.requires.found).1

pub overflow_cast-result : goal.overflow_cast-result
overflow_cast-result c = let within = pair-within c.args.lists.now c.args.one c.args.other c.requires.found in omega (arith, within.0)

pub overflow_add-result : goal.overflow_add-result
overflow_add-result c = let within = pair-within c.args.lists.now c.args.one c.args.other c.requires.found in omega (arith, within.0)

pub overflow_cast-result-in-Some : goal.overflow_cast-result-in-Some
overflow_cast-result-in-Some c = let within = pair-within c.args.lists.now c.args.one c.args.other c.requires.found in omega (arith, within.1)

pub overflow_add-result-in-Some : goal.overflow_add-result-in-Some
overflow_add-result-in-Some c = let within = pair-within c.args.lists.now c.args.one c.args.other c.requires.found in omega (arith, within.1)

pub unreachable-requires : goal.unreachable-requires
unreachable-requires c =
    let named = pair-named c.args.lists.now c.args.one c.args.other c.index-lists-one.result c.index-lists-other.result c.index-lists-one.is c.index-lists-other.is c.requires.found in
    let none = sym c.in_ok-name.ensures ∙ c.in-None.is in
    let bad = sym (ap is_some none) ∙ named.share_name in
    cc

pub returns : goal.returns
returns c =
    let named = pair-named c.args.lists.now c.args.one c.args.other c.index-lists-one.result c.index-lists-other.result c.index-lists-one.is c.index-lists-other.is c.requires.found in
    named.refusal ∙ ap (option_map (many.Overlap (c.args.one + 1) (c.args.other + 1))) (sym c.in_ok-name.ensures ∙ c.in-Some.is)
