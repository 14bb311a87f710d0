use Rattle.std.proofs.{Common.{◌≡◌, ℕ, ◌+◌, ◌-◌, ◌<◌, ◌∷◌, length, drop, get_or, ◌∙◌, ap, refl, arith, add-one}, Math.Seq.drop-cons}
use Rattle.std.specs.{Map.lookup, Str.bytes_eq}
use Rattle.log_records.proofs.Finding.{one_more}
use Rattle.log_records.proofs.places.NamePlaces.new.Goals as goal

pub loop-index-preserved : goal.loop-index-preserved
loop-index-preserved c = λ n.
    let at : ℕ = c.loop-index.index - 1 in
    let up : at + 1 ≡ c.loop-index.index = omega arith in
    let within : at < length c.args.names.now = omega arith in
    let name : c.bytes.result.now ≡ get_or c.args.names.now at c.index-as_slice-index.result =
    c.bytes.ensures.bytes ∙ c.index-as_slice-index.is ∙ ap (λ (names : _). get_or names at c.index-as_slice-index.result) c.as_slice.ensures in
    let first : drop at c.args.names.now ≡ c.bytes.result.now ∷ drop (at + 1) c.args.names.now =
    rw (add-one at, name) (drop-cons c.args.names.now at c.index-as_slice-index.result within) in
    ap (λ es. lookup (λ k. bytes_eq n k.items) es) c.in_ok-insert.ensures.entries
    ∙ one_more at at c.bytes.result.now c.args.names.now c.loop-index.places.entries c.in_ok-name.name (rw up c.loop-index.invariant) first c.in_ok-name.ensures.items refl n
