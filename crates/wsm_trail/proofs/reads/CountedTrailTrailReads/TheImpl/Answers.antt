-- One read more is at most one more.
use Rattle.wsm_trail.proofs.Common.{[], ⊤, ◌≡◌, arith, entry_at, option_copied}
use contract.Monad.{fact}
use mathlib.Core.Option.{none}
use base.Fml.{GName}
use base.Logic.{ent, emp, sep, ex, via, all, all_i, ex_i, ex_e, wand, wand_i, snd∗, emp∗, mono_r}
use types.Logic.{sem}
use denote.RattleType.{RattleType}
use denote.Follow.{follows_if, follows_so, such_by}
use borrow.Fn.Refines.{Turns}
use mir.Syntax.{named, erased}
use denote.Param.{param}
use Rattle.wsm_trail.specs.contracts.reads as reads
use Rattle.wsm_trail.specs.contracts.reads.CountedTrail.{the_row}
use borrow.Fn.World.{World, Pr}
use Rattle.wsm_trail.proofs.reads.CountedTrailTrailReads.TheImpl.Goals as goal

-- what holds of a value at the end of its borrow, holds in a weaker form too
less : (w : World) (R : RattleType) (γ : GName) (P Q : R.Denot → Type 0) → ((n : R.Denot) → P n → Q n) → ent w.𝓤 (sem w.𝓛 (follows_so R R γ none (λ _ _. ⊤) P)) (sem w.𝓛 (follows_so R R γ none (λ _ _. ⊤) Q))
unfolding such_by
less w R γ P Q weaker =
    ex_e w.𝓤 _ (λ s. ex_i w.𝓤 (λ (t : (p : (R.Denot → R.Denot) × R.Denot) × ((z : R.Denot) → ⊤) × Q p.1). sem w.𝓛 (follows_if R R γ none t.0.0 t.0.1)) (s.0, s.1, weaker s.0.1 s.2))

-- what each end turns into
turns : (w : World) (R X : Type 0) (D : Unit {0} → R → X → Pr w) (E : R → X → Pr w) → ((r : R) (e : X) → ent w.𝓤 (D tt r e) (E r e)) →
    ent w.𝓤 (emp w.𝓤) (ex w.𝓤 (λ (g : Unit {0}). sep w.𝓤 (emp w.𝓤) (Turns w.𝓤 R X (D g) E)))
turns w R X D E each =
    let T : Pr w = Turns w.𝓤 R X (D tt) E in
    via w.𝓤 (sep w.𝓤 (emp w.𝓤) T) (via w.𝓤 T
    (all_i w.𝓤 (λ (r : R). all w.𝓤 (λ (e : X). wand w.𝓤 (D tt r e) (E r e))) (λ r. all_i w.𝓤 (λ (e : X). wand w.𝓤 (D tt r e) (E r e)) (λ e.
    wand_i w.𝓤 (emp w.𝓤) (D tt r e) (E r e) (via w.𝓤 (D tt r e) (snd∗ w.𝓤 (emp w.𝓤) (D tt r e)) (each r e)))))
    (emp∗ w.𝓤 T)) (ex_i w.𝓤 (λ (g : Unit {0}). sep w.𝓤 (emp w.𝓤) (Turns w.𝓤 R X (D g) E)) tt)

pub entry-meets : goal.entry-meets
entry-meets g c =
    turns g.world _ _
    (λ _ r e. (reads.CountedTrailTrailReads.entry.clauses g.row.L g.L.Ledger g.L.Ledger-dict g.world.𝓛 g.world.𝓜.mem g.world.𝓡.returns (c.lifetimes.0, (g.lifetime.n1, (g.row.L.lives, tt))) (c.args.self, (c.args.position, tt))).ensures tt r e)
    (λ r e. (reads.TrailReads.entry.clauses (the_row (record { mir = erased; lft = g.lifetime.n1 }) (param 0 g.row.L) g.L.Ledger) (reads.CountedTrailTrailReads.TheImpl.ghosts g.row.L g.L.Ledger g.L.Ledger-dict) (reads.CountedTrailTrailReads.TheImpl.dict g.row.L g.L.Ledger g.L.Ledger-dict) g.world.𝓛 g.world.𝓜.mem g.world.𝓡.returns c.lifetimes (c.args.self, (c.args.position, tt))).ensures c.ghost r (e.0, (e.1.0, tt)))
    (λ r e. mono_r g.world.𝓤 (fact g.world.𝓤 (option_copied r ≡ entry_at c.args.position c.args.self.now.trail.now.trail.entries)) (less g.world (the_row (record { mir = named 0; lft = [] }) g.row.L g.L.Ledger) c.args.self.ghost_name _ _ (λ n p. (p.0, omega (arith, p.1), omega (arith, p.1)))))
