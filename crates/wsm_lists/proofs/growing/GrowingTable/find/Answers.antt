use Rattle.wsm_lists.proofs.{Common.{◌∙◌, ap, Ascends, option_copied, row_at, rows_of, Some, subst, sym}, Entries.found-row, PutOver.{ascends-over, or_else, row_at-over}}
use Rattle.wsm_lists.proofs.growing.GrowingTable.find.Goals as goal

pub returns-in-None-clause-found : goal.returns-in-None-clause-found
returns-in-None-clause-found g c =
    let key = g.K.Keys.key_of in
    let rows = rows_of c.self.inside.more.entries in
    let none = sym c.find.ensures ∙ ap option_copied c.in-None.is in
    let both = row_at-over key c.args.key c.self.inside.few rows ∙ ap (λ o. or_else o (row_at key c.args.key rows)) none in
    c.get.ensures.value ∙ found-row key c.args.key c.self.inside.more.entries c.self.invariant.0 ∙ sym both ∙ ap (row_at key c.args.key) c.self.view_is

pub returns-in-None-clause-ascends : goal.returns-in-None-clause-ascends
returns-in-None-clause-ascends g c = subst (Ascends g.K.Keys.key_of) c.self.view_is (ascends-over g.K.Keys.key_of c.self.inside.few (rows_of c.self.inside.more.entries) c.self.invariant.1)

pub returns-in-Some-clause-found : goal.returns-in-Some-clause-found
returns-in-Some-clause-found g c =
    let key = g.K.Keys.key_of in
    let rows = rows_of c.self.inside.more.entries in
    let there = sym c.find.ensures ∙ ap option_copied c.in-Some.is in
    let both = row_at-over key c.args.key c.self.inside.few rows ∙ ap (λ o. or_else o (row_at key c.args.key rows)) there in
    sym both ∙ ap (row_at key c.args.key) c.self.view_is

pub returns-in-Some-clause-ascends : goal.returns-in-Some-clause-ascends
returns-in-Some-clause-ascends g c = subst (Ascends g.K.Keys.key_of) c.self.view_is (ascends-over g.K.Keys.key_of c.self.inside.few (rows_of c.self.inside.more.entries) c.self.invariant.1)
