-- The codes by which a proof tells trails and cases apart.
use Rattle.std.specs.{Prelude.{◌≡◌, ℕ, zero, suc, ℤ, pos, Bool, true, false, List, [], Option, None, refl}, Coded.{Coded, code_by, coded×, coded_ℕ, coded_ℤ, coded_bool, coded_list, coded_option}}
use Rattle.case_core.specs.CaseModel.{CaseModel, LiveModel}
use Rattle.wsm_lists.specs.declared.values.Value.{Value}
use Rattle.wsm_lists.specs.declared.values.Value.TheVariants as value
use Rattle.wsm_schema.specs.{SchemaModel.{SchemaModel, schema_code}, Trail.TrailModel, declared.entries.Entry.Entry}
use Rattle.wsm_schema.specs.declared.entries.Entry.TheVariants as entry
use Rattle.wsm_ops.specs.declared.operations.Op.{Op}
use Rattle.wsm_sound.specs.{OpCodes.op_code, VersionModel.{VersionModel, version_code}}

-- a value as a mark of its kind, a number and bytes
abbrev value_parts : Value → Bool × (ℤ × List ℕ)
value_parts (value.Int n) = (false, (n, []))
value_parts (value.Text t) = (true, (pos 0, t))

abbrev value_from : Bool → ℤ → List ℕ → Value
value_from false n t = value.Int n
value_from true n t = value.Text t

pub value_from-parts : (v : Value) → value_from (value_parts v).0 (value_parts v).1.0 (value_parts v).1.1 ≡ v
value_from-parts (value.Int n) = refl
value_from-parts (value.Text t) = refl

abbrev value_code : Coded Value
value_code = code_by (Bool × (ℤ × List ℕ)) (coded× coded_bool (coded× coded_ℤ (coded_list coded_ℕ))) value_parts (λ p. value_from p.0 p.1.0 p.1.1) value_from-parts

-- an entry as the number of its kind, and what entries of all kinds have
abbrev Parts : Type 0
Parts = ℕ × (ℕ × (ℕ × (List (ℕ × Option Value) × (List (ℕ × Value) × Option ℕ))))

abbrev entry_parts : Entry → Parts
entry_parts (entry.Start node user reads) = (0, (node, (user, (reads, ([], None)))))
entry_parts (entry.End node writes choice) = (1, (node, (0, ([], (writes, choice)))))
entry_parts (entry.Again node writes) = (2, (node, (0, ([], (writes, None)))))
entry_parts (entry.Wrote writes) = (3, (0, (0, ([], (writes, None)))))

abbrev entry_from : ℕ → ℕ → ℕ → List (ℕ × Option Value) → List (ℕ × Value) → Option ℕ → Entry
entry_from zero node user reads writes choice = entry.Start node user reads
entry_from (suc zero) node user reads writes choice = entry.End node writes choice
entry_from (suc (suc zero)) node user reads writes choice = entry.Again node writes
entry_from (suc (suc (suc n))) node user reads writes choice = entry.Wrote writes

abbrev entry_of : Parts → Entry
entry_of p = entry_from p.0 p.1.0 p.1.1.0 p.1.1.1.0 p.1.1.1.1.0 p.1.1.1.1.1

pub entry_of-parts : (e : Entry) → entry_of (entry_parts e) ≡ e
entry_of-parts (entry.Start node user reads) = refl
entry_of-parts (entry.End node writes choice) = refl
entry_of-parts (entry.Again node writes) = refl
entry_of-parts (entry.Wrote writes) = refl

abbrev writes_code : Coded (List (ℕ × Value))
writes_code = coded_list (coded× coded_ℕ value_code)

abbrev reads_code : Coded (List (ℕ × Option Value))
reads_code = coded_list (coded× coded_ℕ (coded_option value_code))

abbrev entry_code : Coded Entry
entry_code =
    code_by Parts (coded× coded_ℕ (coded× coded_ℕ (coded× coded_ℕ (coded× reads_code (coded× writes_code (coded_option coded_ℕ))))))
    entry_parts entry_of entry_of-parts

abbrev trail_code : Coded TrailModel
trail_code =
    code_by (List (ℕ × Entry) × ℕ) (coded× (coded_list (coded× coded_ℕ entry_code)) coded_ℕ)
    (λ t. (t.entries, t.next)) (λ p. record { entries = p.0; next = p.1 }) (λ _. refl)

abbrev pub live_code : Coded LiveModel
live_code =
    code_by (VersionModel × (List Op × (SchemaModel × TrailModel))) (coded× version_code (coded× (coded_list op_code) (coded× schema_code trail_code)))
    (λ l. (l.base, (l.own, (l.schema, l.trail)))) (λ p. record { base = p.0; own = p.1.0; schema = p.1.1.0; trail = p.1.1.1 }) (λ _. refl)

abbrev pub case_code : Coded CaseModel
case_code =
    code_by (ℕ × Option LiveModel) (coded× coded_ℕ (coded_option live_code))
    (λ c. (c.type_no, c.live)) (λ p. record { type_no = p.0; live = p.1 }) (λ _. refl)
