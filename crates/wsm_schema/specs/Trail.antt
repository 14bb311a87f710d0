-- Trails: entries by position, values, and the cut.
use Rattle.std.specs.{Prelude.{ℕ, ◌+◌, Bool, List, [], ◌∷◌, ◌++◌, filter_map, Option, Some, None, nat_lt, ◌==◌, if◌then◌else◌}, List.list_any}
use Rattle.wsm_lists.specs.{Values.{Written, value_in}, declared.values.Value.Value}
use Rattle.wsm_schema.specs.declared.entries.Entry.{Entry}
use Rattle.wsm_schema.specs.declared.entries.Entry.TheVariants as entry

-- entries by position, and the next position
pub record TrailModel : Type 0 where
  pub entries : List (ℕ × Entry)
  pub next : ℕ

-- the empty trail; positions begin with 1
abbrev pub no_trail : TrailModel
no_trail = record { entries = []; next = 1 }

-- one more entry, at the next position
abbrev pub pushed : Entry → TrailModel → TrailModel
pushed e t = record { entries = t.entries ++ (t.next, e) ∷ []; next = t.next + 1 }

-- what an entry wrote
abbrev pub written_by : Entry → Written
written_by (entry.Start node user reads) = []
written_by (entry.End node writes choice) = writes
written_by (entry.Again node writes) = writes
written_by (entry.Wrote writes) = writes

-- the later of two values, where there is one
abbrev pub later_or : Option Value → Option Value → Option Value
later_or None earlier = earlier
later_or (Some v) earlier = Some v

-- the last value of an element at a position below p
abbrev pub value_below : ℕ → ℕ → List (ℕ × Entry) → Option Value
value_below element p [] = None
value_below element p (e ∷ es) =
    later_or (value_below element p es) (if nat_lt e.0 p then value_in element (written_by e.1) else None)

-- the cut by a loop, whose nodes are `body`
abbrev pub is_one_of : ℕ → List ℕ → Bool
is_one_of node body = list_any (λ n. n == node) body

-- what stays of an entry that wrote something
abbrev pub wrote : ℕ → Written → Option (ℕ × Entry)
wrote p [] = None
wrote p (w ∷ ws) = Some (p, entry.Wrote (w ∷ ws))

-- what stays of an entry
abbrev pub cut_entry : List ℕ → ℕ → Entry → Option (ℕ × Entry)
cut_entry body p (entry.Start node user reads) = if is_one_of node body then None else Some (p, entry.Start node user reads)
cut_entry body p (entry.End node writes choice) = if is_one_of node body then wrote p writes else Some (p, entry.End node writes choice)
cut_entry body p (entry.Again node writes) = if is_one_of node body then wrote p writes else Some (p, entry.Again node writes)
cut_entry body p (entry.Wrote writes) = Some (p, entry.Wrote writes)

-- what stays of a trail
abbrev pub cut_by : List ℕ → TrailModel → TrailModel
cut_by body t = record t { entries = filter_map (λ e. cut_entry body e.0 e.1) t.entries }
