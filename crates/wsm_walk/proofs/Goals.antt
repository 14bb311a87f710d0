-- The marks of a trail are what a walk may aim at.
use Rattle.wsm_walk.proofs.{Common.{ℕ, ◌∙◌, ◌≡◌, Aim, all_rows, ap, cards_of, Entries, eq_at-same, facts_of, IsRank, List, mark_now, Regular, SchemaModel, solution, solution-solves, sym, times_by, with_time}, Kept.timed_of-by}
use Rattle.wsm_walk.proofs.Targets.{no-lead}

pub trail-aim : (s : SchemaModel) → Regular s → (rank : List ℕ) → IsRank (cards_of s) rank → (es : Entries) → Aim (cards_of s) rank (mark_now s rank es)
trail-aim s regular rank is es =
    let same : (n : ℕ) → solution (cards_of s) rank (facts_of es) n ≡ times_by (mark_now s rank es) n = λ n. sym (timed_of-by (solution (cards_of s) rank (facts_of es)) es n) in
    record {
      ranked = is;
      solves = record {
        meets = λ n c at.
            sym (same n) ∙ (solution-solves (cards_of s) rank is (facts_of es)).meets n c at
            ∙ eq_at-same (cards_of s) (facts_of es) (solution (cards_of s) rank (facts_of es)) (times_by (mark_now s rank es)) c
            (all_rows _ (λ e d found. same e.node) c.ins) (all_rows _ (λ m d found. same m) c.syncs_in);
      };
      times = λ n. ap (λ x. with_time x (mark_now s rank es n)) (same n);
      behind = λ n c at k d at_k none. no-lead s regular n c at k d at_k none;
    }
