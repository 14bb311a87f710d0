use Rattle.std.proofs.Common.{◌≡◌, List, ℕ, sym, subst, rules, IfOk, OnOk, false}
use Rattle.file_names.specs.Names.{is_listed}
use Rattle.file_names.proofs.Noted.{found_noted, found_number, absent_listed, absent_noted, absent_number}
use Rattle.file_names.proofs.name_tables.NameTable.note.Goals as goal

pub returns-in-Some-clause-noted : goal.returns-in-Some-clause-noted
returns-in-Some-clause-noted c = rw (← c.self.view_is) (sym (found_noted (λ v. v.items) c.args.name.bytes.now c.self.inside.set.keys c.in-Some.index (search rules)))

pub returns-in-Some-clause-number : goal.returns-in-Some-clause-number
returns-in-Some-clause-number c = rw (← c.self.view_is) (found_number (λ v. v.items) c.args.name.bytes.now c.self.inside.set.keys c.in-Some.index (search rules))

pub add-requires-clause-new : goal.add-requires-clause-new
add-requires-clause-new c = rw (← c.self.view_is) (absent_listed (λ v. v.items) c.args.name.bytes.now c.self.inside.set.keys (search rules))

pub returns-in-None-clause-noted : goal.returns-in-None-clause-noted
returns-in-None-clause-noted c =
    let absent : is_listed c.args.name.bytes.now c.args.self.now ≡ false =
    rw (← c.self.view_is) (absent_listed (λ v. v.items) c.args.name.bytes.now c.self.inside.set.keys (search rules)) in
    subst (λ (names : List (List ℕ)). OnOk c.add.result (c.add.new.self ≡ names)) (sym (absent_noted c.args.self.now c.args.name.bytes.now absent)) c.add.ensures.added

pub returns-in-None-clause-number : goal.returns-in-None-clause-number
returns-in-None-clause-number c =
    let absent : is_listed c.args.name.bytes.now c.args.self.now ≡ false =
    rw (← c.self.view_is) (absent_listed (λ v. v.items) c.args.name.bytes.now c.self.inside.set.keys (search rules)) in
    subst (λ (i : ℕ). IfOk c.add.result (λ n. n ≡ i)) (absent_number c.args.self.now c.args.name.bytes.now absent) c.add.ensures.number
