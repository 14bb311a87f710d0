-- The test of two cards tells whether they are one.
use Rattle.std.proofs.{Common.{◌≡◌, ℕ, Bool, true, false, ◌&&◌, refl, ap, sym, ◌∙◌, Option, Some, None, Decides, nat_eq}, lemmas.Bool.both_ways, lemmas.Bool.Decides.{Decides-and, Decides-eqb, Decides-like}, lemmas.Option.same_Some}
use Rattle.std.specs.{Prelude.{◌==◌, if◌then◌else◌}, Bool.beq, Cmp.Lexicographic.{pointwise_decides, bytes_decides}, Option.option_eq}
use Rattle.wsm_schema.specs.{declared.cards.Card.Card, declared.cards.End.End, declared.cards.NodeKind.NodeKind}
use Rattle.wsm_schema.specs.declared.cards.NodeKind.TheVariants as node
use Rattle.wsm_touch.specs.SameCards.{kind_number, same_card, same_data, same_edges, same_end, same_place}

abbrev kind_from : ℕ → NodeKind
kind_from n =
    if n == 0 then node.Start
    else (if n == 1 then node.Finish
    else (if n == 2 then node.Activity
    else (if n == 3 then node.AndSplit
    else (if n == 4 then node.AndJoin
    else (if n == 5 then node.XorSplit
    else (if n == 6 then node.XorJoin
    else (if n == 7 then node.LoopStart
    else node.LoopEnd)))))))

kind_from-number : (k : NodeKind) → kind_from (kind_number k) ≡ k
kind_from-number node.Start = refl
kind_from-number node.Finish = refl
kind_from-number node.Activity = refl
kind_from-number node.AndSplit = refl
kind_from-number node.AndJoin = refl
kind_from-number node.XorSplit = refl
kind_from-number node.XorJoin = refl
kind_from-number node.LoopStart = refl
kind_from-number node.LoopEnd = refl

pub kinds-decided : (k l : NodeKind) → Decides (kind_number k == kind_number l) (k ≡ l)
kinds-decided k l =
    Decides-like _ (λ same. sym (kind_from-number k) ∙ ap kind_from same ∙ kind_from-number l) (λ e. ap kind_number e) (Decides-eqb (kind_number k) (kind_number l))

pub options-decided : (x y : Option ℕ) → Decides (option_eq nat_eq x y) (x ≡ y)
options-decided None None = (λ h. refl, λ e. refl)
options-decided None (Some y) = (λ h. absurd (both_ways _ refl h), λ e. absurd (cc))
options-decided (Some x) None = (λ h. absurd (both_ways _ refl h), λ e. absurd (cc))
options-decided (Some x) (Some y) = Decides-like _ (λ e. ap Some e) (λ e. same_Some x y e) (Decides-eqb x y)

bools-decided : (x y : Bool) → Decides (beq x y) (x ≡ y)
bools-decided true true = (λ h. refl, λ e. refl)
bools-decided false false = (λ h. refl, λ e. refl)
bools-decided true false = (λ h. absurd (both_ways _ refl h), λ e. absurd (both_ways _ e refl))
bools-decided false true = (λ h. absurd (both_ways _ refl h), λ e. absurd (both_ways _ refl e))

ends-decided : (a b : End) → Decides (same_end a b) (a ≡ b)
ends-decided a b =
    Decides-like _ (λ parts. λ i. record { node = parts.0 i; label = parts.1 i }) (λ e. (ap (λ (x : End). x.node) e, ap (λ (x : End). x.label) e))
    (Decides-and _ _ (Decides-eqb a.node b.node) (options-decided a.label b.label))

reads-decided : (r s : ℕ × Bool) → Decides (r.0 == s.0 && beq r.1 s.1) (r ≡ s)
reads-decided r s =
    Decides-like _ (λ parts. λ i. (parts.0 i, parts.1 i)) (λ e. (ap (λ (x : ℕ × Bool). x.0) e, ap (λ (x : ℕ × Bool). x.1) e))
    (Decides-and _ _ (Decides-eqb r.0 s.0) (bools-decided r.1 s.1))

abbrev Place : Card → Card → Type 0
Place a b = ((a.node ≡ b.node) × (a.kind ≡ b.kind)) × (a.partner ≡ b.partner)

abbrev Edges : Card → Card → Type 0
Edges a b = (((a.ins ≡ b.ins) × (a.outs ≡ b.outs)) × (a.syncs_in ≡ b.syncs_in)) × (a.syncs_out ≡ b.syncs_out)

abbrev Data : Card → Card → Type 0
Data a b = ((a.reads ≡ b.reads) × (a.writes ≡ b.writes)) × (a.role ≡ b.role)

place-decided : (a b : Card) → Decides (same_place a b) (Place a b)
place-decided a b = Decides-and _ _ (Decides-and _ _ (Decides-eqb a.node b.node) (kinds-decided a.kind b.kind)) (options-decided a.partner b.partner)

edges-decided : (a b : Card) → Decides (same_edges a b) (Edges a b)
edges-decided a b =
    Decides-and _ _ (Decides-and _ _ (Decides-and _ _ (pointwise_decides ends-decided a.ins b.ins) (pointwise_decides ends-decided a.outs b.outs)) (bytes_decides a.syncs_in b.syncs_in)) (bytes_decides a.syncs_out b.syncs_out)

data-decided : (a b : Card) → Decides (same_data a b) (Data a b)
data-decided a b =
    Decides-and _ _ (Decides-and _ _ (pointwise_decides reads-decided a.reads b.reads) (bytes_decides a.writes b.writes)) (Decides-eqb a.role b.role)

one-card : (a b : Card) → Place a b → Edges a b → Data a b → a ≡ b
one-card a b p e d = λ i. record {
  node = p.0.0 i;
  kind = p.0.1 i;
  partner = p.1 i;
  ins = e.0.0.0 i;
  outs = e.0.0.1 i;
  syncs_in = e.0.1 i;
  syncs_out = e.1 i;
  reads = d.0.0 i;
  writes = d.0.1 i;
  role = d.1 i;
}

fields : (a b : Card) → a ≡ b → (Place a b × Edges a b) × Data a b
fields a b same = (
  (
    ((ap (λ (x : Card). x.node) same, ap (λ (x : Card). x.kind) same), ap (λ (x : Card). x.partner) same),
    (((ap (λ (x : Card). x.ins) same, ap (λ (x : Card). x.outs) same), ap (λ (x : Card). x.syncs_in) same), ap (λ (x : Card). x.syncs_out) same),
  ),
  ((ap (λ (x : Card). x.reads) same, ap (λ (x : Card). x.writes) same), ap (λ (x : Card). x.role) same),
)

pub cards-decided : (a b : Card) → Decides (same_card a b) (a ≡ b)
cards-decided a b =
    Decides-like _ (λ parts. one-card a b parts.0.0 parts.0.1 parts.1) (fields a b)
    (Decides-and _ _ (Decides-and _ _ (place-decided a b) (edges-decided a b)) (data-decided a b))
