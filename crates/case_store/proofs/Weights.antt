-- No stored call ages a machine by more than its payload has bytes.
use Rattle.case_store.proofs.Common.{[], ℕ, ◌*◌, ◌∷◌, ◌≤◌, arith, case_bytes, CaseId, Event, flat_map, lanes_bytes, length, length-append, length-map, List, Op, op_bytes, part_bytes}
use Rattle.case_store.proofs.Common.{parts_bytes, payload, schema_bytes, Stored, stored_weight, weight}
use Rattle.case_core.specs.declared.events.Event.TheVariants as event
use Rattle.wsm_ops.specs.declared.operations.Op.TheVariants as op
use Rattle.wsm_schema.specs.{Flat.{cards_of, card_of}, Ends.{first_node, last_of}, Places.{lanes_places, labelled, part_places, parts_places, places, plain_end}, SchemaModel.SchemaModel, Tree.{Part, Parts}}
use Rattle.wsm_schema.specs.{Tree.{Lanes, act, gate, loop, nothing, part, no_lane, lane}, declared.cards.End.End, declared.places.Place.Place}
use Rattle.store_form.specs.Payload.{tables_bytes}
use Rattle.store_form.specs.declared.stored.Stored.TheVariants as stored

-- an operation has five bytes at least: its row and a node
op-bytes : (o : Op) → 5 ≤ length (op_bytes o)
op-bytes (op.InsertSerial node role g) = omega arith
op-bytes (op.InsertParallel node role split join first last) = omega arith
op-bytes (op.InsertConditional node role split join g) = omega arith
op-bytes (op.DeleteActivity node) = omega arith
op-bytes (op.MoveActivity node g) = omega arith
op-bytes (op.InsertSync source target) = omega arith
op-bytes (op.DeleteSync source target) = omega arith
op-bytes (op.AddElement element k) = omega arith
op-bytes (op.AddRead node element mandatory) = omega arith
op-bytes (op.RemoveRead node element) = omega arith
op-bytes (op.AddWrite node element) = omega arith
op-bytes (op.RemoveWrite node element) = omega arith
op-bytes (op.SetRole node role) = omega arith

ops-bytes : (ops : List Op) → 3 * length ops ≤ length (flat_map op_bytes ops)
ops-bytes [] = omega arith
ops-bytes (o ∷ ops) = omega (arith, length-append (op_bytes o) (flat_map op_bytes ops), op-bytes o, ops-bytes ops)

-- a node has a byte at least
mutual
  part-bytes : (p : Part) (from : End) (to : ℕ) → length (part_places p from to) ≤ length (part_bytes p)
  part-bytes (act node) from to = omega arith
  part-bytes (gate kind split join ls) from to = omega (arith, length-append {A = Place}, lanes-bytes ls split join)
  part-bytes (loop start end body) from to = omega (arith, length-append {A = Place}, parts-bytes body (plain_end start) end)

  parts-bytes : (ps : Parts) (from : End) (to : ℕ) → length (parts_places ps from to) ≤ length (parts_bytes ps)
  parts-bytes nothing from to = omega arith
  parts-bytes (part p ps) from to =
      let last : End = plain_end (last_of p) in
      omega (arith, length-append {A = Place}, length-append {A = ℕ}, part-bytes p from (first_node ps to), parts-bytes ps last to)

  lanes-bytes : (ls : Lanes) (split join : ℕ) → length (lanes_places ls split join) ≤ length (lanes_bytes ls)
  lanes-bytes no_lane split join = omega arith
  lanes-bytes (lane code ps ls) split join = omega (arith, length-append {A = Place}, length-append {A = ℕ}, parts-bytes ps (labelled split code) join, lanes-bytes ls split join)

-- an event of a case
event-bytes : (caller : ℕ) (c : CaseId) (e : Event) → weight e ≤ length (case_bytes caller c e)
event-bytes caller c (event.Create version) = omega arith
event-bytes caller c (event.Migrate version) = omega arith
event-bytes caller c (event.Start node user roles) = omega arith
event-bytes caller c (event.End node user choice writes) = omega arith
event-bytes caller c (event.Withdraw node user) = omega arith
event-bytes caller c (event.Change ops) = omega (arith, ops-bytes ops)

cards-bytes : (s : SchemaModel) → length (cards_of s) ≤ length (schema_bytes s)
cards-bytes s =
    let inner = parts-bytes s.body (plain_end s.start) s.finish in
    omega (arith, length-map (places s.start s.body s.finish) (card_of s), length-append {A = Place}, length-append (parts_bytes s.body) (tables_bytes s), inner)

pub weight-below : (caller : ℕ) (e : Stored) → stored_weight e ≤ length (payload caller e)
weight-below caller (stored.Define t s) = omega (arith, cards-bytes s)
weight-below caller (stored.Install t ops) = omega (arith, ops-bytes ops)
weight-below caller (stored.Newest t) = omega arith
weight-below caller (stored.Create c number) = omega arith
weight-below caller (stored.Migrate c number) = omega arith
weight-below caller (stored.Case c e) = event-bytes caller c e
