-- A refusal looks at what is seen of the nodes that the operation touches, and at whether the rows that it names are listed.
use Rattle.wsm_commute.proofs.Common.{[], ℕ, ◌&&◌, ◌==◌, ◌||◌, ◌∙◌, ◌∷◌, ◌≡◌, ap, Bool, Card, card_at, cards_of, End, Gap, if◌then◌else◌, is_activity, is_code, is_some, List, list_any, map, NodeKind, None, not, Option, option_map}
use Rattle.wsm_commute.proofs.{Common.{option_or, refl, SchemaModel, Some, sym, when}, Looks.{look_of, seen}}
use Rattle.wsm_schema.specs.Trail.{is_one_of}
use Rattle.wsm_ops.specs.Refusals.{by_card, wrong_unless, taken, one_taken, takes_behind, is_split, has_code, gap_refusal, begins_item, ends_item, wrong_item, item_refusal}
use Rattle.wsm_ops.specs.declared.operations.Gap.TheVariants as gap
use Rattle.wsm_ops.specs.declared.faults.OpWhy.TheVariants.{NodeThere, WrongKind}

-- two cards of which the same is seen
abbrev Alike : Option Card → Option Card → Type 0
Alike c d = option_map look_of c ≡ option_map look_of d

-- a test that looks at nothing else
abbrev Looks : (Card → Bool) → Type 0
Looks test = (c d : Card) → look_of c ≡ look_of d → test c ≡ test d

by-card : (test : Card → Bool) → Looks test → (n : ℕ) (c d : Option Card) → Alike c d → by_card test n c ≡ by_card test n d
by-card test looks n None None h = refl
by-card test looks n None (Some d) h = absurd (cc)
by-card test looks n (Some c) None h = absurd (cc)
by-card test looks n (Some c) (Some d) h = ap (λ b. when (not b) (WrongKind n)) (looks c d (cc))

there : (c d : Option Card) → Alike c d → is_some c ≡ is_some d
there None None h = refl
there None (Some d) h = absurd (cc)
there (Some c) None h = absurd (cc)
there (Some c) (Some d) h = refl

-- a test of the kind alone
pub by_kind : (f : NodeKind → Bool) → Looks (λ c. f c.kind)
by_kind f c d h = ap (λ l. f l.kind) h

labels-any : (code : ℕ) (es : List End) → has_code code es ≡ list_any (λ l. is_code l code) (map (λ e. e.label) es)
labels-any code [] = refl
labels-any code (e ∷ es) = ap (λ b. is_code e.label code || b) (labels-any code es)

by_head : (code : ℕ) → Looks (λ c. is_split c.kind && has_code code c.outs)
by_head code c d h =
    ap (λ b. is_split c.kind && b) (labels-any code c.outs)
    ∙ ap (λ l. is_split l.kind && list_any (λ m. is_code m code) l.labels) h
    ∙ sym (ap (λ b. is_split d.kind && b) (labels-any code d.outs))

ends-same : (last : ℕ) → Looks (λ c. ends_item c last)
ends-same last c d h = ap (λ l. if is_activity l.kind then l.node == last else is_code l.partner last) h

-- the node of a gap
abbrev pub gap_node : Gap → ℕ
gap_node (gap.After n) = n
gap_node (gap.Head split code) = split

module _ (s t : SchemaModel) where
  -- the same is seen of a node
  abbrev pub SameSeen : ℕ → Type 0
  SameSeen n = seen n s ≡ seen n t

  pub wrong-same : (test : Card → Bool) → Looks test → (n : ℕ) → SameSeen n → wrong_unless test (cards_of s) n ≡ wrong_unless test (cards_of t) n
  wrong-same test looks n h = by-card test looks n (card_at n (cards_of s)) (card_at n (cards_of t)) h

  pub taken-same : (earlier : List ℕ) (n : ℕ) → SameSeen n → taken (cards_of s) earlier n ≡ taken (cards_of t) earlier n
  taken-same earlier n h = ap (λ b. when (b || is_one_of n earlier) (NodeThere n)) (there (card_at n (cards_of s)) (card_at n (cards_of t)) h)

  pub three-same : (node split join : ℕ) → SameSeen node → SameSeen split → SameSeen join → one_taken (cards_of s) node split join ≡ one_taken (cards_of t) node split join
  three-same node split join a b c = rw (taken-same [] node a, taken-same (node ∷ []) split b, taken-same (node ∷ split ∷ []) join c) refl

  pub gap-same : (g : Gap) → SameSeen (gap_node g) → gap_refusal (cards_of s) g ≡ gap_refusal (cards_of t) g
  gap-same (gap.After n) h = wrong-same (λ c. takes_behind c.kind) (by_kind takes_behind) n h
  gap-same (gap.Head split code) h = wrong-same (λ c. is_split c.kind && has_code code c.outs) (by_head code) split h

  pub item-same : (one last : ℕ) → SameSeen one → SameSeen last → item_refusal (cards_of s) one last ≡ item_refusal (cards_of t) one last
  item-same one last h k = go (card_at one (cards_of s)) (card_at one (cards_of t)) h
    where
      go : (c d : Option Card) → Alike c d → wrong_item (cards_of s) one last c ≡ wrong_item (cards_of t) one last d
      go None None e = refl
      go None (Some d) e = absurd (cc)
      go (Some c) None e = absurd (cc)
      go (Some c) (Some d) e =
          let alike : look_of c ≡ look_of d = cc in
          ap (λ b. option_or (when (not b) (WrongKind one)) (wrong_unless (λ _. ends_item c last) (cards_of s) last)) (by_kind begins_item c d alike)
          ∙ ap (option_or (when (not (begins_item d.kind)) (WrongKind one)))
          (wrong-same (λ _. ends_item c last) (λ x y p. refl) last k ∙ ap (λ b. wrong_unless (λ _. b) (cards_of t) last) (ends-same last c d alike))
