-- What a server answers, by what is held.
use Rattle.talk_server.proofs.Common.{[], ◌++◌, ◌<◌, ◌↔◌, ◌∙◌, ◌∷◌, ◌≡◌, ◌≤◌, accepts, answer_by, ap, append-nil, Bool, Bytes, codes, false, header, held_behind, if◌then◌else◌, inl, inr, is_blank, IsTrue, item_answer, kind, length, List}
use Rattle.talk_server.proofs.Common.{MAX_ITEM, nat_lt, next_refused, payload_of, refl, rest_answer, server_rules, Serves, subst, sym, true, UnitRules, units_behind, units_in}
use Rattle.std.proofs.lemmas.Bool.{cases_lt, le-ltb, lt-ltb}
use Rattle.talk_items.specs.declared.items.ItemKind.{ItemKind}
use Rattle.talk_items.specs.declared.items.ItemKind.TheVariants as kinds

-- payloads that begin with the header, and more of them
more-headed : (ps qs : List Bytes) → ps ≡ header ∷ units_in ps → ps ++ qs ≡ header ∷ units_in (ps ++ qs)
more-headed [] qs is = absurd cc
more-headed (p ∷ ps) qs is = let same : p ≡ header = cc in ap (λ x. x ∷ (ps ++ qs)) same

units-more : (ps qs : List Bytes) → ps ≡ header ∷ units_in ps → units_in (ps ++ qs) ≡ units_in ps ++ qs
units-more [] qs is = absurd cc
units-more (p ∷ ps) qs is = refl

-- whether an item is too long, by the test
pub long-by : (b : Bool) (item : Bytes) → IsTrue b ↔ (MAX_ITEM < length item) → b ≡ true → MAX_ITEM < length item
long-by b item tells is = tells.0 is

pub short-by : (b : Bool) (item : Bytes) → IsTrue b ↔ (MAX_ITEM < length item) → b ≡ false → length item ≤ MAX_ITEM
short-by b item tells is = elim (cases_lt MAX_ITEM (length item)) [
  | inl long ↦ let so : b ≡ true = tells.1 long in absurd cc
  | inr short ↦ short
]

-- a rest behind which there are no more bytes
module _ (rules : UnitRules) (rest : Bytes) where
  by-blank : (b : Bool) → is_blank rest ≡ b → rest_answer rules rest ≡ (if b then [] else (if nat_lt MAX_ITEM (length rest) then next_refused rules rest (codes "limit bytes") else next_refused rules rest (codes "unended")))
  by-blank b is = ap (λ t. if t then [] else (if nat_lt MAX_ITEM (length rest) then next_refused rules rest (codes "limit bytes") else next_refused rules rest (codes "unended"))) is

  by-length : (b : Bool) → nat_lt MAX_ITEM (length rest) ≡ b → is_blank rest ≡ false → rest_answer rules rest ≡ (if b then next_refused rules rest (codes "limit bytes") else next_refused rules rest (codes "unended"))
  by-length b long is = by-blank false is ∙ ap (λ t. if t then next_refused rules rest (codes "limit bytes") else next_refused rules rest (codes "unended")) long

  pub long-rest : is_blank rest ≡ false → MAX_ITEM < length rest → rest_answer rules rest ≡ next_refused rules rest (codes "limit bytes")
  long-rest is long = by-length true (lt-ltb MAX_ITEM (length rest) long) is

  pub unended-rest : is_blank rest ≡ false → length rest ≤ MAX_ITEM → rest_answer rules rest ≡ next_refused rules rest (codes "unended")
  unended-rest is short = by-length false (le-ltb MAX_ITEM (length rest) short) is

  -- what is put behind a text then
  pub long-told : (own before after : Bytes) → own ≡ rest → is_blank own ≡ false → MAX_ITEM < length own → after ≡ before ++ next_refused rules own (codes "limit bytes") → after ≡ before ++ rest_answer rules rest
  long-told own before after same some long told =
      let here : is_blank rest ≡ false = ap is_blank (sym same) ∙ some in
      let many : MAX_ITEM < length rest = subst (λ i. MAX_ITEM < length i) same long in
      told ∙ ap (λ i. before ++ next_refused rules i (codes "limit bytes")) same ∙ ap (λ t. before ++ t) (sym (long-rest here many))

  pub unended-told : (own before after : Bytes) → own ≡ rest → is_blank own ≡ false → length own ≤ MAX_ITEM → after ≡ before ++ next_refused rules own (codes "unended") → after ≡ before ++ rest_answer rules rest
  unended-told own before after same some short told =
      let here : is_blank rest ≡ false = ap is_blank (sym same) ∙ some in
      let few : length rest ≤ MAX_ITEM = subst (λ i. length i ≤ MAX_ITEM) same short in
      told ∙ ap (λ i. before ++ next_refused rules i (codes "unended")) same ∙ ap (λ t. before ++ t) (sym (unended-rest here few))

module _ (rules : UnitRules) (ps : List Bytes) (item : Bytes) where
  pub long-answer : (first : Bool) → MAX_ITEM < length item → item_answer rules first ps item ≡ next_refused rules item (codes "limit bytes")
  long-answer first long = ap (λ b. if b then next_refused rules item (codes "limit bytes") else answer_by rules (kind item) first (units_in ps) item) (lt-ltb MAX_ITEM (length item) long)

  pub short-answer : (first : Bool) (k : ItemKind) → length item ≤ MAX_ITEM → kind item ≡ k → item_answer rules first ps item ≡ answer_by rules k first (units_in ps) item
  short-answer first k short is =
      ap (λ b. if b then next_refused rules item (codes "limit bytes") else answer_by rules (kind item) first (units_in ps) item) (le-ltb MAX_ITEM (length item) short)
      ∙ ap (λ j. answer_by rules j first (units_in ps) item) is

  pub unit-told : (own bytes before after : Bytes) (first : Bool) → own ≡ item → bytes ≡ own → length own ≤ MAX_ITEM → kind own ≡ kinds.Unit → after ≡ before ++ rules.answer (units_in ps) bytes
      → after ≡ before ++ item_answer rules first ps item
  unit-told own bytes before after first same is short unit told =
      let few : length item ≤ MAX_ITEM = subst (λ i. length i ≤ MAX_ITEM) same short in
      told ∙ ap (λ i. before ++ rules.answer (units_in ps) i) (is ∙ same) ∙ ap (λ t. before ++ t) (sym (short-answer first kinds.Unit few (ap kind (sym same) ∙ unit)))

  pub question-told : (own bytes before after : Bytes) (first : Bool) → own ≡ item → bytes ≡ own → length own ≤ MAX_ITEM → kind own ≡ kinds.Question → after ≡ before ++ rules.asked (units_in ps) bytes
      → after ≡ before ++ item_answer rules first ps item
  question-told own bytes before after first same is short question told =
      let few : length item ≤ MAX_ITEM = subst (λ i. length i ≤ MAX_ITEM) same short in
      told ∙ ap (λ i. before ++ rules.asked (units_in ps) i) (is ∙ same) ∙ ap (λ t. before ++ t) (sym (short-answer first kinds.Question few (ap kind (sym same) ∙ question)))

  -- behind an item
  pub same-payload : (b : Bool) → b ≡ accepts rules ps item → (if b then item ∷ [] else []) ≡ payload_of (server_rules rules) ps item
  same-payload b is = ap (λ t. if t then item ∷ [] else []) is

  units-then : (b : Bool) → ps ≡ header ∷ units_in ps → units_behind b (units_in ps) item ≡ units_in (ps ++ (if b then item ∷ [] else []))
  units-then true headed = sym (units-more ps (item ∷ []) headed)
  units-then false headed = sym (units-more ps [] headed ∙ append-nil (units_in ps))

  pub then-serves : {H : Type 0} (keeps : H → List Bytes → Type 0) (first : Bool) (state : H) (taken : Bytes) (is_first : Bool) (b : Bool) (next : H)
      → Serves keeps first ps item state taken is_first → b ≡ accepts rules ps item → keeps next (units_behind b (units_in ps) item)
      → Serves keeps false (held_behind (server_rules rules) ps item) [] next [] false
  then-serves keeps first state taken is_first b next s is kept =
      let qs = payload_of (server_rules rules) ps item in
      let same : ps ++ (if b then item ∷ [] else []) ≡ ps ++ qs = ap (λ l. ps ++ l) (same-payload b is) in
      record {
        headed = more-headed ps qs s.headed;
        keeps = subst (keeps next) (units-then b s.headed ∙ ap units_in same) kept;
        begun_with = refl;
        at_first = refl;
      }
