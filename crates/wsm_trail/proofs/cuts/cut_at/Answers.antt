use Rattle.wsm_trail.proofs.{Common.{ℕ, ◌<◌, ◌∙◌, ◌≡◌, ap, Bool, cut_entry, Entry, get_or, if◌then◌else◌, length, List, None, refl, rules, Some, sym, true}, Cutting.cut-kept}
use Rattle.wsm_trail.proofs.cuts.cut_at.Goals as goal

pub returns-clause-entries : goal.returns-clause-entries
returns-clause-entries c =
    let body : List ℕ = c.args.body.now in
    let xs : List (ℕ × Entry) = c.args.entries.now.items in
    let e : ℕ × Entry = c.index_mut.result.now in
    let read : e ≡ get_or xs c.args.i e = c.index_mut.ensures.value in
    let stays : c.cut_entry.result ≡ true = search rules in
    let within : c.args.i < length xs = search rules in
    cut-kept body xs _ c.swap.new.self.items c.args.kept c.args.i e (e.0, c.cut_entry.new.entry) c.requires.behind within refl c.swap.ensures.by_index
    (ap (λ (x : ℕ × Entry). cut_entry body x.0 x.1) (sym read) ∙ c.cut_entry.ensures e.0 ∙ ap (λ (b : Bool). if b then Some (e.0, c.cut_entry.new.entry) else None) stays)
