-- The node rule before a number is the node's equation before it.
use Rattle.wsm_marks.proofs.Common.{ℕ, ◌≡◌, and_left, ap, awaited, before, Bool, both_ways, cases_Bool, cond, eq_of, false, flow, greater, inl, inr, is_no, is_ready, is_skipped, is_some, is_yes, judge_of, latest, List, list_all, map}
use Rattle.wsm_marks.proofs.Common.{nat_lt, NodeKind, None, refl, Some, sym, Timed, timed_by, true, Verdict, verdict_of}
use Rattle.wsm_schema.specs.declared.cards.NodeKind.TheVariants as kind
use Rattle.wsm_schema.specs.declared.states.Flow.TheVariants.{Yes, No}
use Rattle.wsm_schema.specs.declared.states.Verdict.TheVariants as verdict
use Rattle.wsm_marks.proofs.Signals.{all-late, before-in_time, before-late, before_none, greater-late_left, greater-late_right, greater-lt, map-in_time}

-- the control edges in time
ready-in_time : (q : ℕ) (k : NodeKind) (cs : List Timed) → nat_lt (latest (awaited k cs)) q ≡ true → is_ready k (map (before q) cs) ≡ is_ready k (map flow cs)
ready-in_time q kind.Start cs h = refl
ready-in_time q kind.XorJoin cs h = ap (is_ready kind.XorJoin) (map-in_time q cs h)
ready-in_time q _ cs h = ap (list_all is_yes) (map-in_time q cs h)

skipped-in_time : (q : ℕ) (k : NodeKind) (cs : List Timed) → nat_lt (latest (awaited k cs)) q ≡ true → is_skipped k (map (before q) cs) ≡ is_skipped k (map flow cs)
skipped-in_time q kind.Start cs h = refl
skipped-in_time q _ cs h = ap (list_all is_no) (map-in_time q cs h)

-- a control edge late
ready-late : (q : ℕ) → nat_lt 0 q ≡ true → (k : NodeKind) (cs : List Timed) → nat_lt (latest (awaited k cs)) q ≡ false → is_ready k (map (before q) cs) ≡ false
ready-late q pos kind.Start cs h = absurd (both_ways _ h pos)
ready-late q pos kind.XorJoin cs h = and_left _ _ (all-late is_some refl q pos cs h)
ready-late q pos _ cs h = all-late is_yes refl q pos cs h

skipped-late : (q : ℕ) → nat_lt 0 q ≡ true → (k : NodeKind) (cs : List Timed) → nat_lt (latest (awaited k cs)) q ≡ false → is_skipped k (map (before q) cs) ≡ false
skipped-late q pos kind.Start cs h = refl
skipped-late q pos _ cs h = all-late is_no refl q pos cs h

-- a control edge late: nothing holds
late-waits : (v : Verdict) (a b q : ℕ) → nat_lt a q ≡ false → verdict_of (before q (timed_by v a b)) ≡ verdict.Waiting
late-waits verdict.Waiting a b q h = ap verdict_of (before_none q)
late-waits verdict.Ready a b q h = ap verdict_of (before-late q (Some (greater a b, Yes)) (greater-late_left a b q h))
late-waits verdict.Skipped a b q h = ap verdict_of (before-late q (Some (a, No)) h)

-- all in time: the verdict holds
soon-same : (v : Verdict) (a b q : ℕ) → nat_lt 0 q ≡ true → nat_lt a q ≡ true → nat_lt b q ≡ true → verdict_of (before q (timed_by v a b)) ≡ v
soon-same verdict.Waiting a b q pos x y = ap verdict_of (before-in_time q None pos)
soon-same verdict.Ready a b q pos x y = ap verdict_of (before-in_time q (Some (greater a b, Yes)) (greater-lt a b q x y))
soon-same verdict.Skipped a b q pos x y = ap verdict_of (before-in_time q (Some (a, No)) x)

-- only a sync edge late
late-sync : (r s y : Bool) (a b q : ℕ) → nat_lt 0 q ≡ true → nat_lt a q ≡ true → nat_lt b q ≡ false →
    cond r (cond false verdict.Ready verdict.Waiting) (cond s verdict.Skipped verdict.Waiting)
    ≡ verdict_of (before q (timed_by (cond r (cond y verdict.Ready verdict.Waiting) (cond s verdict.Skipped verdict.Waiting)) a b))
late-sync true s true a b q pos x l = sym (ap verdict_of (before-late q (Some (greater a b, Yes)) (greater-late_right a b q l)))
late-sync true s false a b q pos x l = sym (ap verdict_of (before-in_time q None pos))
late-sync false true y a b q pos x l = sym (ap verdict_of (before-in_time q (Some (a, No)) x))
late-sync false false y a b q pos x l = sym (ap verdict_of (before-in_time q None pos))

-- the node rule on what the edges signal before q is what the node's equation says before q
pub threshold : (q : ℕ) → nat_lt 0 q ≡ true → (k : NodeKind) (cs ss : List Timed) →
    judge_of k (map (before q) cs) (map (before q) ss) ≡ verdict_of (before q (eq_of k cs ss))
threshold q pos k cs ss =
    let v : Verdict = judge_of k (map flow cs) (map flow ss) in
    let a : ℕ = latest (awaited k cs) in
    elim (cases_Bool (nat_lt a q)) [
      | inl soon ↦
          elim (cases_Bool (nat_lt (latest ss) q)) [
            | inl rest ↦ rw (ready-in_time q k cs soon, skipped-in_time q k cs soon, map-in_time q ss rest) (sym (soon-same v a (latest ss) q pos soon rest))
            | inr late ↦
                rw (ready-in_time q k cs soon, skipped-in_time q k cs soon, all-late is_some refl q pos ss late)
                (late-sync (is_ready k (map flow cs)) (is_skipped k (map flow cs)) (list_all is_some (map flow ss)) a (latest ss) q pos soon late)
          ]
      | inr late ↦ rw (ready-late q pos k cs late, skipped-late q pos k cs late) (sym (late-waits v a (latest ss) q late))
    ]
