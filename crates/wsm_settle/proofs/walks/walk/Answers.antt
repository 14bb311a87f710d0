use Rattle.wsm_settle.proofs.{Common.{ℕ, ◌<◌, ◌∙◌, ◌∷◌, ◌≡◌, All, arith, get_or, length, List, refl, rules}, Visits.{behind-all, few-end, few-failed, left-less, none-left, spends-on, walks-end, walks-on, within-head, within-tail}}
use Rattle.wsm_settle.proofs.walks.walk.Goals as goal

pub visit-requires-clause-place : goal.visit-requires-clause-place
visit-requires-clause-place g c = within-head (length c.args.rank.now) c.in-Some.place c.pop_first.new.self.keys c.loop-place.pending.keys c.in-Some.ensures.removal c.loop-place.invariant.within

pub visit-requires-clause-behind : goal.visit-requires-clause-behind
visit-requires-clause-behind g c =
    let p : ℕ = c.in-Some.place in
    let above : All (λ y. p < y) c.pop_first.new.self.keys = search rules in
    behind-all p c.pop_first.new.self.keys above

pub visit-requires-clause-within : goal.visit-requires-clause-within
visit-requires-clause-within g c = within-tail (length c.args.rank.now) c.in-Some.place c.pop_first.new.self.keys c.loop-place.pending.keys c.in-Some.ensures.removal c.loop-place.invariant.within

pub loop-place-preserved : goal.loop-place-preserved
loop-place-preserved g c =
    let i = c.loop-place.invariant in
    let keys : List ℕ = c.pop_first.new.self.keys in
    let p : ℕ = c.in-Some.place in
    let removal : c.loop-place.pending.keys ≡ p ∷ keys = c.in-Some.ensures.removal in
    record {
      walked =
          walks-on c.args.flat.now.cards c.args.rank.now (g.M.MarkReads.kept c.args.marks.now) (g.M.MarkReads.kept c.loop-place.marks) c.args.pending.now.keys c.loop-place.pending.keys (p ∷ keys) c.visit.new.pending.keys
          c.args.changes.now c.loop-place.changes c.visit.new.changes i.walked removal i.same c.in_ok-visit.ensures.walked;
      spent =
          spends-on c.args.flat.now.cards c.args.rank.now (g.M.MarkReads.reads c.args.marks.now) (g.M.MarkReads.reads c.loop-place.marks) (g.M.MarkReads.reads c.visit.new.marks) c.args.pending.now.keys
          c.loop-place.pending.keys (p ∷ keys) c.visit.new.pending.keys i.spent removal c.in_ok-visit.ensures.spent;
      within = c.in_ok-visit.ensures.within;
      same = c.visit.ensures.same ∙ i.same;
      rises = (let a = i.rises in let b = c.visit.ensures.rises in omega (arith, a, b));
    }

pub loop-place-smaller : goal.loop-place-smaller
loop-place-smaller g c =
    let lt = within-head (length c.args.rank.now) c.in-Some.place c.pop_first.new.self.keys c.loop-place.pending.keys c.in-Some.ensures.removal c.loop-place.invariant.within in
    left-less (length c.args.rank.now) c.in-Some.place c.pop_first.new.self.keys c.visit.new.pending.keys c.loop-place.pending.keys c.in-Some.ensures.removal lt c.in_ok-visit.ensures.behind

pub returns-in_err-visit-clause-few : goal.returns-in_err-visit-clause-few
returns-in_err-visit-clause-few g c =
    let lt = within-head (length c.args.rank.now) c.in-Some.place c.pop_first.new.self.keys c.loop-place.pending.keys c.in-Some.ensures.removal c.loop-place.invariant.within in
    few-failed c.args.flat.now.cards c.args.rank.now (g.M.MarkReads.reads c.args.marks.now) (g.M.MarkReads.reads c.loop-place.marks) (g.M.MarkReads.reads c.visit.new.marks) c.args.pending.now.keys c.loop-place.pending.keys
    c.in-Some.place (get_or c.args.rank.now c.in-Some.place 0) 0 c.pop_first.new.self.keys c.loop-place.invariant.spent c.in-Some.ensures.removal lt refl c.visit.ensures.count

pub returns-clause-few : goal.returns-clause-few
returns-clause-few g c =
    let zero : length c.loop-place.pending.keys ≡ 0 = search rules in
    few-end c.args.flat.now.cards c.args.rank.now (g.M.MarkReads.reads c.args.marks.now) (g.M.MarkReads.reads c.loop-place.marks) c.args.pending.now.keys c.loop-place.pending.keys c.loop-place.invariant.spent
    (none-left c.loop-place.pending.keys zero)

pub returns-clause-walked : goal.returns-clause-walked
returns-clause-walked g c =
    let zero : length c.loop-place.pending.keys ≡ 0 = search rules in
    walks-end c.args.flat.now.cards c.args.rank.now (g.M.MarkReads.kept c.args.marks.now) c.args.pending.now.keys c.loop-place.pending.keys c.args.changes.now c.loop-place.changes c.loop-place.invariant.walked
    (none-left c.loop-place.pending.keys zero)
