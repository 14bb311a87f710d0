use Rattle.case_audit.proofs.Common.{◌-◌, ◌∙◌, ◌≡◌, AllZip, ap, arith, crosses, frees, range_with_len, subst, sym}
use denote.Param.Send.{sendable}
use Rattle.rayon.specs.Numbers.{nat_range}
use Rattle.rayon.proofs.{ListFacts.IfOk-then, ToStd.nat_range-All}
use Rattle.case_audit.proofs.sections.each_below.Goals as goal

-- one line for each `Send` and `Sync`, the allocator, and then what the work requires at each number of the range
pub collect-requires : goal.collect-requires
collect-requires g c =
    let ends = c.into_par_iter.ensures in
    let inside = nat_range-All (λ i. g.F.Fn.pre c.args.work (i, tt)) 0 c.args.count (λ i low high. c.requires i high) in
    (search (sendable, crosses) depth 40, (search (sendable, crosses) depth 40, (search (sendable, crosses) depth 40, (search (sendable, crosses) depth 40, (search (sendable, crosses) depth 40, (frees, rw (c.map.ensures.base, c.map.ensures.f, ends.0, ends.1) (λ k d lt. (inside k d lt, λ y p. tt))))))))

pub returns : goal.returns
returns g c =
    let ends = c.into_par_iter.ensures in
    let n = c.args.count in
    let whole : n - 0 ≡ n = omega arith in
    IfOk-then c.collect.result _ _ c.collect.ensures (λ v h.
    let chain = rw (c.map.ensures.base, c.map.ensures.f) at h.1 in
    let places = chain.1 ∙ (λ i. nat_range (ends.0 i) (ends.1 i)) ∙ ap (range_with_len 0) whole in
    subst (λ given. AllZip (λ i r. g.F.Fn.post c.args.work (i, tt) r) (range_with_len 0 n) given) (sym h.2) (subst (λ is. AllZip (λ i r. g.F.Fn.post c.args.work (i, tt) r) is h.0) places chain.2))
