use Rattle.wsm_adapt.proofs.Common.{ℕ, ◌<◌, ◌∙◌, ◌∷◌, ◌≡◌, All, arith, behind-all, GoesOn, left-less, length, List, none-left, refl, rules, StaysInside, subst, within-head, within-tail}
use Rattle.wsm_adapt.proofs.Visiting.{few-end, few-then, goes-then, spent-then, stays-then}
use Rattle.wsm_adapt.proofs.walks.walk.Goals as goal

pub visit-requires-clause-place : goal.visit-requires-clause-place
visit-requires-clause-place g c = within-head (length c.args.rank.now) c.in-Some.place c.pop_first.new.self.keys c.loop-place.pending.keys c.in-Some.ensures.removal c.loop-place.invariant.within

pub visit-requires-clause-behind : goal.visit-requires-clause-behind
visit-requires-clause-behind g c =
    let p : ℕ = c.in-Some.place in
    let above : All (λ y. p < y) c.pop_first.new.self.keys = search rules in
    behind-all p c.pop_first.new.self.keys above

pub visit-requires-clause-within : goal.visit-requires-clause-within
visit-requires-clause-within g c = within-tail (length c.args.rank.now) c.in-Some.place c.pop_first.new.self.keys c.loop-place.pending.keys c.in-Some.ensures.removal c.loop-place.invariant.within

pub loop-place-init : goal.loop-place-init
loop-place-init g c = record {
  walked = λ goal touched aim st. st;
  inside = λ inside ranked closed con. con;
  told = λ n it. it;
  spent = λ inside all ranked closed covered con. omega arith;
  within = c.requires.within;
  same = refl;
  rises = omega arith;
}

pub loop-place-preserved : goal.loop-place-preserved
loop-place-preserved g c =
    let i = c.loop-place.invariant in
    let keys : List ℕ = c.pop_first.new.self.keys in
    let p : ℕ = c.in-Some.place in
    let cards = c.args.flat.now.cards in
    let rank : List ℕ = c.args.rank.now in
    let first : List ℕ = c.args.pending.now.keys in
    let now : List ℕ = c.loop-place.pending.keys in
    let next : List ℕ = c.visit.new.pending.keys in
    let removal : now ≡ p ∷ keys = c.in-Some.ensures.removal in
    let r : ℕ = g.M.MarkReads.reads c.args.marks.now in
    let r' : ℕ = g.M.MarkReads.reads c.loop-place.marks in
    let r'' : ℕ = g.M.MarkReads.reads c.visit.new.marks in
    record {
      walked =
          goes-then cards rank (g.M.MarkReads.kept c.args.marks.now) (g.M.MarkReads.kept c.loop-place.marks) first now (p ∷ keys) next c.args.found.now c.loop-place.found c.visit.new.found i.walked removal i.same
          c.in_ok-visit.ensures.walked;
      inside = stays-then cards rank first now (p ∷ keys) next c.args.found.now c.loop-place.found c.visit.new.found i.inside removal c.in_ok-visit.ensures.inside;
      told = λ n it. c.in_ok-visit.ensures.told n (i.told n it);
      spent = spent-then cards rank first now (p ∷ keys) r r' r'' c.args.found.now c.loop-place.found c.visit.new.found i.spent i.inside removal c.in_ok-visit.ensures.spent;
      within = c.in_ok-visit.ensures.within;
      same = c.visit.ensures.same ∙ i.same;
      rises = (let a = i.rises in let b = c.visit.ensures.rises in omega (arith, a, b));
    }

pub loop-place-smaller : goal.loop-place-smaller
loop-place-smaller g c =
    let lt = within-head (length c.args.rank.now) c.in-Some.place c.pop_first.new.self.keys c.loop-place.pending.keys c.in-Some.ensures.removal c.loop-place.invariant.within in
    left-less (length c.args.rank.now) c.in-Some.place c.pop_first.new.self.keys c.visit.new.pending.keys c.loop-place.pending.keys c.in-Some.ensures.removal lt c.in_ok-visit.ensures.behind

pub returns-in_err-visit-clause-few : goal.returns-in_err-visit-clause-few
returns-in_err-visit-clause-few g c =
    few-then c.args.flat.now.cards c.args.rank.now c.args.pending.now.keys c.loop-place.pending.keys (c.in-Some.place ∷ c.pop_first.new.self.keys) (g.M.MarkReads.reads c.args.marks.now) (g.M.MarkReads.reads c.loop-place.marks)
    (g.M.MarkReads.reads c.visit.new.marks) c.args.found.now c.loop-place.found c.loop-place.invariant.spent c.loop-place.invariant.inside c.in-Some.ensures.removal c.visit.ensures.few

pub returns-clause-few : goal.returns-clause-few
returns-clause-few g c =
    few-end c.args.flat.now.cards c.args.rank.now c.args.pending.now.keys (g.M.MarkReads.reads c.args.marks.now) (g.M.MarkReads.reads c.loop-place.marks) c.args.found.now c.loop-place.found c.loop-place.invariant.spent

pub returns-clause-walked : goal.returns-clause-walked
returns-clause-walked g c =
    let zero : length c.loop-place.pending.keys ≡ 0 = search rules in
    subst (λ (l : List ℕ). GoesOn c.args.flat.now.cards c.args.rank.now (g.M.MarkReads.kept c.args.marks.now) c.args.pending.now.keys c.args.found.now l c.loop-place.found) (none-left c.loop-place.pending.keys zero) c.loop-place.invariant.walked

pub returns-clause-inside : goal.returns-clause-inside
returns-clause-inside g c =
    let zero : length c.loop-place.pending.keys ≡ 0 = search rules in
    subst (λ (l : List ℕ). StaysInside c.args.flat.now.cards c.args.rank.now c.args.pending.now.keys c.args.found.now l c.loop-place.found) (none-left c.loop-place.pending.keys zero) c.loop-place.invariant.inside
