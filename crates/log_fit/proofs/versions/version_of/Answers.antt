use Rattle.log_fit.proofs.Common.{◌∙◌, ◌≡◌, ap, cases_Bool, false, inl, inr, leb-true, length, rules, slice_get, Some, sym, true}
use Rattle.file_model.specs.Sizes.{is_small}
use Rattle.std.proofs.lemmas.{List.Folds.list_all_at, Option.{get_or_from_slice_get, slice_get_within}}
use Rattle.wsm_schema.specs.Flat.{cards_of}
use Rattle.log_fit.proofs.versions.version_of.Goals as goal

pub kind_of-requires-clause-small : goal.kind_of-requires-clause-small
kind_of-requires-clause-small c =
    let types = c.args.file.now.types in
    let place = c.in-Some.place in
    let decl = c.in-Some-get.decl.now in
    let is : slice_get types place ≡ Some decl = search rules in
    elim (cases_Bool (is_small decl)) [
      | inl small ↦ leb-true (length (cards_of decl.schema)) 1024 small
      | inr large ↦
          let none : false ≡ true = sym (list_all_at is_small types place decl (slice_get_within types place decl is) (ap is_small (get_or_from_slice_get types place decl decl is) ∙ large)) ∙ c.requires.small in
          absurd (cc)
    ]
