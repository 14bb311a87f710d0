use Rattle.case_core.proofs.{Common.{◌∙◌, ◌≡◌, ap, AreLastWrites, goes_on, IfOk-weaker, IsFair, shown_live, Some, subst, sym, true}, Fairness.{never-stuck, fair}, TrailFacts.last-writes}
use Rattle.case_core.proofs.live_of.LiveOf.view.Goals as goal

pub returns-clause-goes_on : goal.returns-clause-goes_on
returns-clause-goes_on g c =
    let l = c.args.self.now in
    IfOk-weaker c.shown.result (λ v. v ≡ shown_live (Some l)) (λ v. goes_on v ≡ true) (λ v is. ap goes_on is ∙ never-stuck l c.base.ensures.kept) c.shown.ensures

pub returns-clause-fair : goal.returns-clause-fair
returns-clause-fair g c =
    let l = c.args.self.now in
    IfOk-weaker c.shown.result (λ v. v ≡ shown_live (Some l)) (IsFair l) (λ v is. subst (IsFair l) (sym is) (fair l c.base.ensures.kept)) c.shown.ensures

pub returns-clause-values : goal.returns-clause-values
returns-clause-values g c =
    let l = c.args.self.now in
    IfOk-weaker c.shown.result (λ v. v ≡ shown_live (Some l)) (AreLastWrites l) (λ v is. subst (AreLastWrites l) (sym is) (last-writes l c.base.ensures.kept)) c.shown.ensures
