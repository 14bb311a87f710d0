-- What holds of a value that steps give, where they give one.
use Rattle.std.specs.{Prelude.{Bool, true, false, Option, Some, None, option_map, IfSome, if◌then◌else◌}, Option.option_or}
use Rattle.file_forms.specs.PieceForms.{◌>>=◌}

pub some-either : {A : Type 0} (P : A → Type 0) (test : Bool) (x y : Option A) → IfSome x P → IfSome y P → IfSome (if test then x else y) P
some-either P true x y h k = h
some-either P false x y h k = k

pub some-or : {A : Type 0} (P : A → Type 0) (x y : Option A) → IfSome x P → IfSome y P → IfSome (option_or x y) P
some-or P None y h k = k
some-or P (Some a) y h k = h

pub some-mapped : {A B : Type 0} (P : A → Type 0) (Q : B → Type 0) (g : A → B) (o : Option A) → IfSome o P → ((x : A) → P x → Q (g x)) → IfSome (option_map g o) Q
some-mapped P Q g None h k = tt
some-mapped P Q g (Some x) h k = k x h

pub some-bound : {A B : Type 0} (P : A → Type 0) (Q : B → Type 0) (o : Option A) (go : A → Option B) → IfSome o P → ((x : A) → P x → IfSome (go x) Q) → IfSome (o >>= go) Q
some-bound P Q None go h k = tt
some-bound P Q (Some x) go h k = k x h

-- where nothing is asked of the value
pub some-any : {A : Type 0} (P : A → Type 0) (o : Option A) → ((x : A) → P x) → IfSome o P
some-any P None k = tt
some-any P (Some x) k = k x
