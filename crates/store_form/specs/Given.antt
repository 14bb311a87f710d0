-- What a reader of the code gives, as the reader on lists says.
use Rattle.std.specs.Prelude.{◌≡◌, Option, Some, None, Result, Ok, Err}
use Rattle.store_form.specs.declared.fields.ReadFault.{ReadFault}
use Rattle.store_form.specs.declared.fields.ReadFault.TheVariants as fault

-- nothing is said where memory was wanting
abbrev pub Fails : {Y : Type 0} → ReadFault → Option Y → Type 0
Fails fault.NoMemory read = Unit {0}
Fails fault.Malformed read = read ≡ None

abbrev pub Gives : {X Y : Type 0} → (X → Y) → Result X ReadFault → Option Y → Type 0
Gives view (Ok x) read = read ≡ Some (view x)
Gives view (Err e) read = Fails e read
