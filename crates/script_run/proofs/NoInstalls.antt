-- Lines that do not install leave what the types answered as it is.
use Rattle.script_run.proofs.Common.{[], ℕ, ◌∙◌, ◌∷◌, ◌≡◌, ap, Checking, false, fold, installs, judged_install, judged_phase, List, list_any, None, Option, refl, Some, some_install}
use Rattle.std.specs.Option.{is_some}
use Rattle.std.proofs.lemmas.Bool.{or_parts}
use Rattle.file_model.specs.declared.files.Line.{Line}
use Rattle.line_calls.specs.Calls.{installed}
use Rattle.wsm_ops.specs.declared.operations.Op.{Op}

idle : (at : ℕ) (o : Option (ℕ × List Op)) (s : Checking) → is_some o ≡ false → judged_install at o s ≡ s
idle at None s h = refl
idle at (Some i) s h = absurd (cc (h))

idle-phase : (lines : List Line) (s : Checking) → some_install lines ≡ false → judged_phase s lines ≡ s
idle-phase [] s h = refl
idle-phase (l ∷ ls) s h =
    let parts = or_parts (installs l.act) (some_install ls) h in
    ap (λ x. judged_phase x ls) (idle l.at (installed l.act) s parts.0) ∙ idle-phase ls s parts.1

pub idle-phases : (phases : List (List Line)) (s : Checking) → list_any some_install phases ≡ false → fold judged_phase s phases ≡ s
idle-phases [] s h = refl
idle-phases (p ∷ ps) s h =
    let parts = or_parts (some_install p) (list_any some_install ps) h in
    ap (λ x. fold judged_phase x ps) (idle-phase p s parts.0) ∙ idle-phases ps s parts.1
