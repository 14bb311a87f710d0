use Rattle.std.proofs.{Common.{◌≡◌, List, map, All, arith}, lemmas.List.Elements.{All-map, All-weaker, All-same}}
use Rattle.turn_cell.specs.Passes.{PassView, joined}
use Rattle.turn_rows.specs.Rows.{CanClose, CanJoin, first_met, split_from, views, zip_with}
use Rattle.turn_rows.proofs.Places.{All-zip_with}
use Rattle.thread_tests.proofs.rows.use_row.Goals as goal

module _ {M E R W S : Type 0} where
  abbrev IsNew : PassView M E R W S → Type 0
  IsNew v = (v.number ≡ 0) × (v.made ≡ 1) × (v.taken ≡ 0)

  abbrev HasSplit : PassView M E R W S → Type 0
  HasSplit v = (v.number ≡ 0) × (v.made ≡ 2) × (v.taken ≡ 0)

  met : (vs us xs ws : List (PassView M E R W S)) → All IsNew vs → us ≡ map split_from vs → xs ≡ zip_with first_met us ws → All HasSplit xs
  met vs us xs ws new split meeting =
      let split_all = All-same HasSplit us (map split_from vs) split (All-map HasSplit split_from vs (All-weaker IsNew (λ v. HasSplit (split_from v)) (λ v k. (k.0, omega (arith, k.1), k.2)) vs new)) in
      All-same HasSplit xs (zip_with first_met us ws) meeting (All-zip_with first_met HasSplit (λ _. Unit {0}) HasSplit (λ v w k _. k) us ws split_all (λ k d lt. tt))

  all_joined : (xs ds ys : List (PassView M E R W S)) → All HasSplit xs → ys ≡ zip_with joined xs ds → All CanClose ys
  all_joined xs ds ys split e = All-same CanClose ys (zip_with joined xs ds) e (All-zip_with joined HasSplit (λ _. Unit {0}) CanClose (λ v w k _. (k.0, omega (arith, k.1, k.2))) xs ds split (λ k d lt. tt))

pub join_row-requires-clause-can : goal.join_row-requires-clause-can
join_row-requires-clause-can c κs =
    All-weaker HasSplit CanJoin (λ v k. (k.0, omega (arith, k.2))) (views c.meet_rows.new.one)
    (met (views c.args.firsts.now) (views c.split_into.new.firsts) (views c.meet_rows.new.one) _ c.requires.new c.split_into.ensures.firsts c.meet_rows.ensures.one)

pub returns : goal.returns
returns c = (
  c.join_row.ensures.cells,
  all_joined (views c.meet_rows.new.one) _ (views c.join_row.new.into)
      (met (views c.args.firsts.now) (views c.split_into.new.firsts) (views c.meet_rows.new.one) _ c.requires.new c.split_into.ensures.firsts c.meet_rows.ensures.one) c.join_row.ensures.joined,
)
