-- A store that is opened again answers, and goes on, as a server that never stopped.
use Rattle.std.proofs.Common.{◌≡◌, ℕ, Bool, true, false, if◌then◌else◌, List, [], ◌∷◌, ◌++◌, Some, codes, refl, ap, ◌∙◌, append_assoc}
use Rattle.file_words.specs.Lines.{Bytes}
use Rattle.store_disk.specs.Image.{HasList}
use Rattle.talk_items.specs.{Items.{ends, kind}, declared.items.ItemKind.ItemKind}
use Rattle.talk_items.specs.declared.items.ItemKind.TheVariants as kinds
use Rattle.talk_laws.specs.Payloads.{begins_with_header, is_header}
use Rattle.talk_laws.proofs.{Ends.items-of, Opened.{opened-served, served-again, worked-served}}
use Rattle.talk_rules.specs.Units.{UnitRules}
use Rattle.talk_server.specs.{Opening.{opened, payloads_of}, Talks.{answer_by, is_too_long, next_refused, server_rules, units_in}}
use Rattle.turn_loop.specs.Talk.{Rules, answers, behind, held_at_last, held_behind, said, split, split_from, still_first, worked}
use Rattle.turn_loop.proofs.Splits.{answers-append, split-append, worked-append}

-- ---- a talk of which a part was said

module _ (rules : Rules) (talk more : Bytes) (whole : (split rules.ends talk).rest ≡ []) where
  split-more : split rules.ends (talk ++ more) ≡ behind (split rules.ends talk).items (split rules.ends more)
  split-more = split-append rules.ends [] talk more ∙ ap (λ b. behind (split rules.ends talk).items (split_from rules.ends b more)) whole

  -- what is said behind the items of a talk
  said-more : (ps : List Bytes)
      → said rules ps (talk ++ more)
      ≡ answers rules true ps (split rules.ends talk).items
      ++ (answers rules (still_first true (split rules.ends talk).items) (held_at_last rules ps talk) (split rules.ends more).items
      ++ rules.ending (held_at_last rules (held_at_last rules ps talk) more) (split rules.ends more).rest)
  said-more ps =
      let s = split rules.ends talk in
      let t = split rules.ends more in
      let first : Bool = still_first true s.items in
      let qs : List Bytes = worked rules ps s.items in
      ap (λ u. answers rules true ps u.items ++ rules.ending (worked rules ps u.items) u.rest) split-more
      ∙ ap (λ x. x ++ rules.ending (worked rules ps (s.items ++ t.items)) t.rest) (answers-append rules true ps s.items t.items)
      ∙ ap (λ q. (answers rules true ps s.items ++ answers rules first qs t.items) ++ rules.ending q t.rest) (worked-append rules ps s.items t.items)
      ∙ append_assoc (answers rules true ps s.items) (answers rules first qs t.items) (rules.ending (worked rules qs t.items) t.rest)

-- ---- where no header line is the first item

module _ (rules : UnitRules) where
  same-by : (k : ItemKind) (first : Bool) (units : List Bytes) (item : Bytes) → is_header k ≡ false → answer_by rules k first units item ≡ answer_by rules k true units item
  same-by kinds.Question first units item bare = refl
  same-by kinds.Unit first units item bare = refl
  same-by kinds.Header first units item bare = absurd cc

  same-answers : (first : Bool) (ps items : List Bytes) → begins_with_header items ≡ false → answers (server_rules rules) first ps items ≡ answers (server_rules rules) true ps items
  same-answers first ps [] bare = refl
  same-answers first ps (item ∷ items) bare =
      ap (λ a. (if is_too_long item then next_refused rules item (codes "limit bytes") else a) ++ answers (server_rules rules) false (held_behind (server_rules rules) ps item) items)
      (same-by (kind item) first (units_in ps) item bare)

  -- A store was opened, and a talk of whole items went on over it. However it stopped, an image that holds all that was accepted
  -- is opened with just that; and what is said over it is what the server would have said that never stopped.
  pub as-never-stopped : (ps : List Bytes) (before after : List ℕ) (talk more : Bytes)
      → payloads_of (opened rules before) ≡ Some ps → HasList (held_at_last (server_rules rules) ps talk) after
      → (split ends talk).rest ≡ [] → begins_with_header (split ends more).items ≡ false
      → (payloads_of (opened rules after) ≡ Some (held_at_last (server_rules rules) ps talk))
      × (said (server_rules rules) ps (talk ++ more) ≡ answers (server_rules rules) true ps (split ends talk).items ++ said (server_rules rules) (held_at_last (server_rules rules) ps talk) more)
  as-never-stopped ps before after talk more was list whole bare =
      let r : Rules = server_rules rules in
      let qs : List Bytes = held_at_last r ps talk in
      let kept = worked-served rules ps (split ends talk).items (items-of ends talk) (opened-served rules before ps was) in (
        served-again rules qs after kept list,
        said-more r talk more whole ps
            ∙ ap (λ x. answers r true ps (split ends talk).items ++ (x ++ r.ending (held_at_last r qs more) (split ends more).rest))
            (same-answers (still_first true (split ends talk).items) qs (split ends more).items bare),
      )
