-- Readers that are brought on from place to place.
use Rattle.line_followers.proofs.Common.{◌∙◌, ◌≡◌, and_then, ap, done, Followed, Follows, goes-done, goes-mapped, goes-stopped, goes-then, left_of, mapped, None, Option, option_map, passed, Reaches, Reader, refl, Some, subst, sym}

same-value : {A : Type 0} (o : Option A) → option_map (λ a. a) o ≡ o
same-value None = refl
same-value (Some a) = refl

value-of-value : {A B C : Type 0} (f : B → A) (g : C → B) (o : Option C) → option_map f (option_map g o) ≡ option_map (λ c. f (g c)) o
value-of-value f g None = refl
value-of-value f g (Some c) = refl

-- ---- nothing was gone along yet
pub reaches-here : {A : Type 0} (r : Reader A) (s : Followed) → Reaches r s r s (λ a. a)
reaches-here r s = (refl, λ end value h. subst (Follows r s end) (sym (same-value value)) h)

-- ---- on from where somebody came to
pub reaches-on : {A B C : Type 0} (r : Reader A) (more : Reader B) (last : Reader C) (f : B → A) (g : C → B) (old mid new : Followed)
    → Reaches r old more mid f → Reaches more mid last new g → Reaches r old last new (λ c. f (g c))
reaches-on r more last f g old mid new h k =
    (k.0 ∙ h.0, λ end value stop. subst (Follows r old end) (value-of-value f g value) (h.1 end (option_map g value) (k.1 end value stop)))

pub follows-on : {A B : Type 0} (r : Reader A) (more : Reader B) (f : B → A) (old mid end : Followed) (value : Option B)
    → Reaches r old more mid f → Follows more mid end value → Follows r old end (option_map f value)
follows-on r more f old mid end value h k = h.1 end value k

-- ---- one reader behind another
pub follows-done : {A : Type 0} (a : A) (s : Followed) → Follows (done a) s s (Some a)
follows-done a s = (refl, goes-done a (left_of s) (passed s))

pub follows-then : {A B : Type 0} (more : A → Reader B) (r : Reader A) (a : A) (old mid end : Followed) (value : Option B)
    → Follows r old mid (Some a) → Follows (more a) mid end value → Follows (and_then r more) old end value
follows-then more r a old mid end value h k =
    (k.0 ∙ h.0, goes-then more r a (left_of old) (left_of mid) (left_of end) (passed old) (passed mid) (passed end) value h.1 k.1)

pub follows-stopped : {A B : Type 0} (more : A → Reader B) (r : Reader A) (old end : Followed) → Follows r old end None → Follows (and_then r more) old end None
follows-stopped more r old end h = (h.0, goes-stopped more r (left_of old) (left_of end) (passed old) (passed end) h.1)

pub follows-mapped : {A B : Type 0} (f : A → B) (r : Reader A) (old end : Followed) (value : Option A) → Follows r old end value → Follows (mapped f r) old end (option_map f value)
follows-mapped f r old end value h = (h.0, goes-mapped f r (left_of old) (left_of end) (passed old) (passed end) value h.1)
