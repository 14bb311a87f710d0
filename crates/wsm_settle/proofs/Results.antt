-- What holds of a result that went well.
use Rattle.wsm_settle.proofs.Common.{Err, IfOk, Ok, OnOk, Result}

pub if_ok : {V E : Type 0} (P Q : V → Type 0) → ((v : V) → P v → Q v) → (r : Result V E) → IfOk r P → IfOk r Q
if_ok P Q h (Ok v) p = h v p
if_ok P Q h (Err e) p = tt

pub on_ok : {V E : Type 0} (P Q : Type 0) → (P → Q) → (r : Result V E) → OnOk r P → OnOk r Q
on_ok P Q h (Ok v) p = h p
on_ok P Q h (Err e) p = tt
