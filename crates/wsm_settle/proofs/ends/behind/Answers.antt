use Rattle.wsm_settle.proofs.{Common.{[], ◌+◌, ◌∙◌, AllWithin, ap, BehindNode, both_ways, leads_to, length, option_copied, Places, refl, sym}, Begins.behind-named, Handing.{handed-within, placed-at, position-none}, Results.if_ok}
use Rattle.wsm_settle.proofs.ends.behind.Goals as goal

pub returns-in-None-place-clause-handed : goal.returns-in-None-place-clause-handed
returns-in-None-place-clause-handed c = λ d found in_rank. absurd (both_ways _ (position-none c.args.node 0 c.args.rank.now (sym c.place.ensures ∙ c.in-None-place.is)) in_rank)

pub returns-in-Some-place-clause-within : goal.returns-in-Some-place-clause-within
returns-in-Some-place-clause-within c =
    if_ok _ (λ (pending : Places). AllWithin (length c.args.rank.now) pending.keys)
    (λ pending handed. handed-within c.args.rank.now (c.in-Some-place.place + 1) (leads_to c.in-Some.card.now) [] pending.keys handed (λ q none. absurd (both_ways _ refl none)))
    c.named_behind.result c.named_behind.ensures

pub returns-in-Some-place-clause-handed : goal.returns-in-Some-place-clause-handed
returns-in-Some-place-clause-handed c =
    if_ok _ (λ (pending : Places). BehindNode c.args.flat.now c.args.rank.now c.args.node pending.keys)
    (λ pending handed.
    behind-named c.args.flat.now c.args.rank.now c.args.node c.in-Some.card.now (sym c.card.ensures ∙ ap option_copied c.in-Some.is) c.in-Some-place.place
    ((placed-at c.args.node c.args.rank.now c.in-Some-place.place (sym c.place.ensures ∙ c.in-Some-place.is)).1) pending.keys handed)
    c.named_behind.result c.named_behind.ensures
