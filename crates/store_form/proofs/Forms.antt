-- A form is read as what was written, and nothing else is read: the combinations of forms.
use Rattle.store_form.proofs.Common.{[], ℕ, ◌++◌, ◌+◌, ◌<◌, ◌==◌, ◌>>=◌, ◌^◌, ◌∙◌, ◌∷◌, ◌≡◌, ◌≤◌, AllByRecursion, ap, append_assoc, arith, as_at, Bool, both_at, byte_len, Bytes, cases_lt, code_at, drop, drop_at, eqb-true, false, FitsEach}
use Rattle.store_form.proofs.Common.{FitsOption, flag, flag_at, flat_map, from_be_bytes, get_or, get_or-drop, get_or-take, get_or_past, if◌then◌else◌, inl, inr, IsCode, IsNumber, le-ltb, length, length-append, length-take, List, list_at}
use Rattle.store_form.proofs.Common.{listed, ltb-false, many_at, nat_lt, None, number_at, Option, option_at, optional, Reader, refl, Some, subst, suc, sym, take, take-append-drop, take_at, to_be_bytes, true, u16, u32, u32_at, w16, w32, w64}
use Rattle.store_form.proofs.Common.{where_at, Width, zero}
use Rattle.std.proofs.lemmas.Nat.{be_bytes_2, be_bytes_4, be_bytes_8, from_be_bytes-to_be_bytes_2, from_be_bytes-to_be_bytes_4, from_be_bytes-to_be_bytes_8}

abbrev pub IsBytes : Bytes → Type 0
IsBytes bytes = (i : ℕ) → get_or bytes i 0 < 256

pub IsBytes-drop : (n : ℕ) (bytes : Bytes) → IsBytes bytes → IsBytes (drop n bytes)
IsBytes-drop n bytes h i = rw get_or-drop (h (n + i))

pub IsBytes-take : (n : ℕ) (bytes : Bytes) → IsBytes bytes → IsBytes (take n bytes)
IsBytes-take n bytes h i =
    elim (cases_lt i n) [
      | inl lt ↦ rw (get_or-take n bytes i 0 lt) (h i)
      | inr le ↦ rw (get_or_past (take n bytes) i 0 (omega (arith, length-take n bytes))) (omega arith)
    ]

pub all_bytes : (bytes : Bytes) → IsBytes bytes → AllByRecursion (λ b. b < 256) bytes
all_bytes [] are = tt
all_bytes (b ∷ bytes) are = (are 0, all_bytes bytes (λ i. are (suc i)))

pub IsBytes-rest : (b : ℕ) (bytes : Bytes) → IsBytes (b ∷ bytes) → IsBytes bytes
IsBytes-rest b bytes h i = h (suc i)

-- what a reader took from the front
pub record Takes (bytes text rest : Bytes) : Type 0 where
  pub parts : bytes ≡ text ++ rest
  pub are_bytes : IsBytes rest

pub takes-then : (a x b y c : Bytes) → Takes a x b → Takes b y c → Takes a (x ++ y) c
takes-then a x b y c p q = record { parts = p.parts ∙ ap (λ t. x ++ t) q.parts ∙ sym (append_assoc x y c); are_bytes = q.are_bytes }

-- what fits and is written is read again, whatever follows it; what is read fits, and was written so
pub record IsForm {A : Type 0} (fits : A → Type 0) (write : A → Bytes) (read : Reader A) : Type 0 where
  pub again : (x : A) (rest : Bytes) → fits x → read (write x ++ rest) ≡ Some (x, rest)
  pub takes : (bytes : Bytes) (x : A) (rest : Bytes) → IsBytes bytes → read bytes ≡ Some (x, rest) → Takes bytes (write x) rest × fits x

-- the value of a step that was read
pub bind_some : {A B : Type 0} (o : Option A) (f : A → Option B) (y : B) → (o >>= f) ≡ Some y → (x : A) × (o ≡ Some x) × (f x ≡ Some y)
bind_some (Some x) f y e = (x, refl, e)
bind_some None f y e = absurd cc

abbrev found : {A : Type 0} → A → Option A
found x = Some x

pub some_is : {A : Type 0} (x y : A) → found x ≡ found y → x ≡ y
some_is x y e = cc

-- one form behind another
pub both_form : {A B : Type 0} {fa : A → Type 0} {fb : B → Type 0} {wa : A → Bytes} {wb : B → Bytes} {ra : Reader A} {rb : Reader B}
    → IsForm fa wa ra → IsForm fb wb rb → IsForm (λ p. fa p.0 × fb p.1) (λ p. wa p.0 ++ wb p.1) (both_at ra rb)
both_form {fa = fa} {fb = fb} {wa = wa} {wb = wb} {ra = ra} {rb = rb} one two = record {
  again = λ p rest fits.
      ap (both_at ra rb) (append_assoc (wa p.0) (wb p.1) rest)
      ∙ ap (λ a. a >>= λ x. rb x.1 >>= λ y. Some ((x.0, y.0), y.1)) (one.again p.0 (wb p.1 ++ rest) fits.0)
      ∙ ap (λ b. b >>= λ y. Some ((p.0, y.0), y.1)) (two.again p.1 rest fits.1);
  takes = λ bytes p rest are e.
      let a = bind_some (ra bytes) (λ x. rb x.1 >>= λ y. Some ((x.0, y.0), y.1)) (p, rest) e in
      let b = bind_some (rb a.0.1) (λ y. Some ((a.0.0, y.0), y.1)) (p, rest) a.2 in
      let first = one.takes bytes a.0.0 a.0.1 are a.1 in
      let second = two.takes a.0.1 b.0.0 b.0.1 first.0.are_bytes b.1 in
      subst (λ z. Takes bytes (wa z.0.0 ++ wb z.0.1) z.1 × (fa z.0.0 × fb z.0.1)) (some_is ((a.0.0, b.0.0), b.0.1) (p, rest) b.2)
      (takes-then bytes (wa a.0.0) a.0.1 (wb b.0.0) b.0.1 first.0 second.0, (first.1, second.1));
}

-- what is made of a form
pub as_again : {A B : Type 0} {fits : A → Type 0} {write : A → Bytes} {read : Reader A}
    → IsForm fits write read → (make : A → B) (a : A) (rest : Bytes) → fits a → as_at make read (write a ++ rest) ≡ Some (make a, rest)
as_again form make a rest fit = ap (λ x. x >>= λ y. Some (make y.0, y.1)) (form.again a rest fit)

pub as_takes : {A B : Type 0} {fits : A → Type 0} {write : A → Bytes} {read : Reader A}
    → IsForm fits write read → (make : A → B) (bytes : Bytes) (x : B) (rest : Bytes) → IsBytes bytes → as_at make read bytes ≡ Some (x, rest)
    → (a : A) × (make a ≡ x) × Takes bytes (write a) rest × fits a
as_takes {write = write} {read = read} form make bytes x rest are e =
    let b = bind_some (read bytes) (λ y. Some (make y.0, y.1)) (x, rest) e in
    let t = form.takes bytes b.0.0 b.0.1 are b.1 in
    let same = some_is (make b.0.0, b.0.1) (x, rest) b.2 in
    (b.0.0, ap (λ z. z.0) same, subst (λ r. Takes bytes (write b.0.0) r) (ap (λ z. z.1) same) t.0, t.1)

-- a form that is made of another, or has another name
pub made_form : {A B : Type 0} {fits : A → Type 0} {write : A → Bytes} {read : Reader A}
    → IsForm fits write read → (make : A → B) (unmake : B → A) (is_fit : B → Type 0) (spelled : B → Bytes)
    → ((x : B) → is_fit x → fits (unmake x) × (make (unmake x) ≡ x) × (spelled x ≡ write (unmake x)))
    → ((a : A) → fits a → is_fit (make a) × (spelled (make a) ≡ write a))
    → IsForm is_fit spelled (as_at make read)
made_form {read = read} form make unmake is_fit spelled there back = record {
  again = λ x rest fit.
      let t = there x fit in
      ap (λ w. as_at make read (w ++ rest)) t.2 ∙ as_again form make (unmake x) rest t.0 ∙ ap (λ y. Some (y, rest)) t.1;
  takes = λ bytes x rest are e.
      let t = as_takes form make bytes x rest are e in
      let is = back t.0 t.3 in
      subst (λ y. Takes bytes (spelled y) rest × is_fit y) t.1 (subst (λ w. Takes bytes w rest) (sym is.1) t.2, is.0);
}

-- an arm of a choice by a tag in front
pub arm_takes : {A B : Type 0} {fits : A → Type 0} {write : A → Bytes} {read : Reader A}
    → IsForm fits write read → (make : A → B) (is_fit : B → Type 0) (spelled : B → Bytes) (tag : ℕ)
    → ((a : A) → fits a → spelled (make a) ≡ tag ∷ write a) → ((a : A) → fits a → is_fit (make a))
    → (bytes : Bytes) (x : B) (rest : Bytes) → IsBytes bytes → as_at make read bytes ≡ Some (x, rest) → Takes (tag ∷ bytes) (spelled x) rest × is_fit x
arm_takes form make is_fit spelled tag spells fit_of bytes x rest are e =
    let t = as_takes form make bytes x rest are e in
    subst (λ y. Takes (tag ∷ bytes) (spelled y) rest × is_fit y) t.1
    (record { parts = ap (λ l. tag ∷ l) t.2.parts ∙ ap (λ l. l ++ rest) (sym (spells t.0 t.3)); are_bytes = t.2.are_bytes }, fit_of t.0 t.3)

-- a choice by a number
pub or_else : {A P : Type 0} (t n : ℕ) (one two : Reader A) (bytes : Bytes) (z : A × Bytes)
    → (t ≡ n → one bytes ≡ Some z → P) → (two bytes ≡ Some z → P) → (if t == n then one else two) bytes ≡ Some z → P
or_else {P = P} t n one two bytes z here there e = chosen (t == n) (λ is. eqb-true t n is) e
  where
    chosen : (b : Bool) → (b ≡ true → t ≡ n) → (if b then one else two) bytes ≡ Some z → P
    chosen true same got = here (same refl) got
    chosen false same got = there got

-- a test that was met
pub kept : {A : Type 0} (t : Bool) (x y : A) → (if t then Some x else None) ≡ Some y → (t ≡ true) × (x ≡ y)
kept true x y e = (refl, some_is x y e)
kept false x y e = absurd cc

pub where_form : {A : Type 0} {fits : A → Type 0} {write : A → Bytes} {read : Reader A}
    → IsForm fits write read → (test : A → Bool) (P : A → Type 0) → ((x : A) → P x → test x ≡ true) → ((x : A) → fits x → test x ≡ true → P x)
    → IsForm (λ x. fits x × P x) write (where_at test read)
where_form {fits = fits} {write = write} {read = read} form test P met tells = record {
  again = λ x rest fit.
      ap (λ a. a >>= λ y. if test y.0 then Some y else None) (form.again x rest fit.0) ∙ ap (λ b. if b then Some (x, rest) else None) (met x fit.1);
  takes = λ bytes x rest are e.
      let b = bind_some (read bytes) (λ y. if test y.0 then Some y else None) (x, rest) e in
      let k = kept (test b.0.0) b.0 (x, rest) b.2 in
      let t = form.takes bytes b.0.0 b.0.1 are b.1 in
      subst (λ z. Takes bytes (write z.0) z.1 × (fits z.0 × P z.0)) k.1 (t.0, (t.1, tells b.0.0 t.1 k.0));
}

-- numbers
pub record IsWide (w : Width) (limit : ℕ) : Type 0 where
  pub len : (n : ℕ) → length (to_be_bytes w n) ≡ byte_len w
  pub back : (bytes : Bytes) → length bytes ≡ byte_len w → IsBytes bytes → to_be_bytes w (from_be_bytes w bytes) ≡ bytes
  pub again : (n : ℕ) → n < limit → from_be_bytes w (to_be_bytes w n) ≡ n
  pub below : (bytes : Bytes) → IsBytes bytes → from_be_bytes w bytes < limit

pub wide16 : IsWide w16 (2 ^ 16)
wide16 = record {
  len = λ n. refl;
  back = λ bytes len are. be_bytes_2 bytes _ len are refl;
  again = λ n below. from_be_bytes-to_be_bytes_2 n below;
  below = λ bytes are. omega (arith, are 0, are 1);
}

wide32 : IsWide w32 (2 ^ 32)
wide32 = record {
  len = λ n. refl;
  back = λ bytes len are. be_bytes_4 bytes _ len are refl;
  again = λ n below. from_be_bytes-to_be_bytes_4 n below;
  below = λ bytes are. omega (arith, are 0, are 1, are 2, are 3);
}

wide64 : IsWide w64 (2 ^ 64)
wide64 = record {
  len = λ n. refl;
  back = λ bytes len are. be_bytes_8 bytes _ len are refl;
  again = λ n below. from_be_bytes-to_be_bytes_8 n below;
  below = λ bytes are. omega (arith, are 0, are 1, are 2, are 3, are 4, are 5, are 6, are 7);
}

-- a test that was not met
kept_not : {A : Type 0} (t : Bool) (x y : A) → (if t then None else Some x) ≡ Some y → (t ≡ false) × (x ≡ y)
kept_not true x y e = absurd cc
kept_not false x y e = (refl, some_is x y e)

pub number_form : {w : Width} {limit : ℕ} → IsWide w limit → IsForm (λ n. n < limit) (to_be_bytes w) (number_at w)
number_form {w = w} {limit = limit} wide = record {
  again = λ n rest below.
      let len = wide.len n in
      let long : nat_lt (length (to_be_bytes w n ++ rest)) (byte_len w) ≡ false = le-ltb _ _ (omega (arith, length-append (to_be_bytes w n) rest)) in
      rw (long, take_at (to_be_bytes w n) rest (byte_len w) len, drop_at (to_be_bytes w n) rest (byte_len w) len, wide.again n below) refl;
  takes = λ bytes n rest are e.
      let k = kept_not (nat_lt (length bytes) (byte_len w)) (from_be_bytes w (take (byte_len w) bytes), drop (byte_len w) bytes) (n, rest) e in
      let long : byte_len w ≤ length bytes = ltb-false _ _ k.0 in
      let front = take (byte_len w) bytes in
      let fronts : IsBytes front = IsBytes-take (byte_len w) bytes are in
      let spelled : to_be_bytes w (from_be_bytes w front) ≡ front = wide.back front (omega (arith, length-take (byte_len w) bytes)) fronts in
      subst (λ z. Takes bytes (to_be_bytes w z.0) z.1 × (z.0 < limit)) k.1
      (record { parts = sym (take-append-drop (byte_len w) bytes) ∙ ap (λ f. f ++ drop (byte_len w) bytes) (sym spelled); are_bytes = IsBytes-drop (byte_len w) bytes are }, wide.below front fronts);
}

pub code_form : IsForm IsCode u16 code_at
code_form = number_form wide16

pub u32_form : IsForm IsNumber u32 u32_at
u32_form = number_form wide32

pub u64_form : IsForm (λ n. n < 2 ^ 64) (to_be_bytes w64) (number_at w64)
u64_form = number_form wide64

-- flags
flag_takes : (bytes : Bytes) (b : Bool) (rest : Bytes) → IsBytes bytes → flag_at bytes ≡ Some (b, rest) → Takes bytes (flag b) rest
flag_takes [] b rest are e = absurd cc
flag_takes (zero ∷ bytes) b rest are e = subst (λ z. Takes (0 ∷ bytes) (flag z.0) z.1) (some_is (false, bytes) (b, rest) e) (record { parts = refl; are_bytes = IsBytes-rest 0 bytes are })
flag_takes (suc zero ∷ bytes) b rest are e = subst (λ z. Takes (1 ∷ bytes) (flag z.0) z.1) (some_is (true, bytes) (b, rest) e) (record { parts = refl; are_bytes = IsBytes-rest 1 bytes are })
flag_takes (suc (suc n) ∷ bytes) b rest are e = absurd cc

flag_again : (b : Bool) (rest : Bytes) → flag_at (flag b ++ rest) ≡ Some (b, rest)
flag_again false rest = refl
flag_again true rest = refl

pub flag_form : IsForm (λ _. Unit {0}) flag flag_at
flag_form = record { again = λ b rest fit. flag_again b rest; takes = λ bytes b rest are e. (flag_takes bytes b rest are e, tt) }

-- lists
module _ {A : Type 0} {fits : A → Type 0} {write : A → Bytes} {read : Reader A} (form : IsForm fits write read) where
  many_again : (xs : List A) (rest : Bytes) → AllByRecursion fits xs → many_at read (length xs) (flat_map write xs ++ rest) ≡ Some (xs, rest)
  many_again [] rest fit = refl
  many_again (x ∷ xs) rest fit =
      ap (many_at read (suc (length xs))) (append_assoc (write x) (flat_map write xs) rest)
      ∙ ap (λ a. a >>= λ y. many_at read (length xs) y.1 >>= λ ys. Some (y.0 ∷ ys.0, ys.1)) (form.again x (flat_map write xs ++ rest) fit.0)
      ∙ ap (λ a. a >>= λ ys. Some (x ∷ ys.0, ys.1)) (many_again xs rest fit.1)

  many_takes : (n : ℕ) (bytes : Bytes) (xs : List A) (rest : Bytes) → IsBytes bytes → many_at read n bytes ≡ Some (xs, rest)
      → Takes bytes (flat_map write xs) rest × AllByRecursion fits xs × (length xs ≡ n)
  many_takes zero bytes xs rest are e =
      subst (λ z. Takes bytes (flat_map write z.0) z.1 × AllByRecursion fits z.0 × (length z.0 ≡ 0)) (some_is ([], bytes) (xs, rest) e) (record { parts = refl; are_bytes = are }, tt, refl)
  many_takes (suc n) bytes xs rest are e =
      let a = bind_some (read bytes) (λ y. many_at read n y.1 >>= λ ys. Some (y.0 ∷ ys.0, ys.1)) (xs, rest) e in
      let b = bind_some (many_at read n a.0.1) (λ ys. Some (a.0.0 ∷ ys.0, ys.1)) (xs, rest) a.2 in
      let first = form.takes bytes a.0.0 a.0.1 are a.1 in
      let others = many_takes n a.0.1 b.0.0 b.0.1 first.0.are_bytes b.1 in
      subst (λ z. Takes bytes (flat_map write z.0) z.1 × AllByRecursion fits z.0 × (length z.0 ≡ suc n)) (some_is (a.0.0 ∷ b.0.0, b.0.1) (xs, rest) b.2)
      (takes-then bytes (write a.0.0) a.0.1 (flat_map write b.0.0) b.0.1 first.0 others.0, (first.1, others.1), ap suc others.2)

  pub list_form : IsForm (FitsEach fits) (listed write) (list_at read)
  list_form = record {
    again = λ xs rest fit.
        ap (list_at read) (append_assoc (u32 (length xs)) (flat_map write xs) rest)
        ∙ ap (λ a. a >>= λ n. many_at read n.0 n.1) (u32_form.again (length xs) (flat_map write xs ++ rest) fit.0)
        ∙ many_again xs rest fit.1;
    takes = λ bytes xs rest are e.
        let n = bind_some (u32_at bytes) (λ n. many_at read n.0 n.1) (xs, rest) e in
        let count = u32_form.takes bytes n.0.0 n.0.1 are n.1 in
        let items = many_takes n.0.0 n.0.1 xs rest count.0.are_bytes n.2 in
        let is : n.0.0 ≡ length xs = sym items.2 in
        (takes-then bytes (u32 (length xs)) n.0.1 (flat_map write xs) rest (subst (λ k. Takes bytes (u32 k) n.0.1) is count.0) items.0, (subst IsNumber is count.1, items.1));
  }

  option_again : (o : Option A) (rest : Bytes) → FitsOption fits o → option_at read (optional write o ++ rest) ≡ Some (o, rest)
  option_again None rest fit = refl
  option_again (Some x) rest fit = as_again form Some x rest fit

  -- behind a flag
  option_behind : (is_there : Bool) (bytes : Bytes) (o : Option A) (rest : Bytes) → IsBytes bytes → (if is_there then as_at Some read bytes else Some (None, bytes)) ≡ Some (o, rest)
      → (all : Bytes) → Takes all (flag is_there) bytes → Takes all (optional write o) rest × FitsOption fits o
  option_behind true bytes o rest are e all front =
      let t = as_takes form Some bytes o rest are e in
      subst (λ y. Takes all (optional write y) rest × FitsOption fits y) t.1 (takes-then all (1 ∷ []) bytes (write t.0) rest front t.2, t.3)
  option_behind false bytes o rest are e all front =
      subst (λ z. Takes all (optional write z.0) z.1 × FitsOption fits z.0) (some_is (None, bytes) (o, rest) e) (front, tt)

  pub option_form : IsForm (FitsOption fits) (optional write) (option_at read)
  option_form = record {
    again = λ o rest fit. option_again o rest fit;
    takes = λ bytes o rest are e.
        let f = bind_some (flag_at bytes) (λ is_there. if is_there.0 then as_at Some read is_there.1 else Some (None, is_there.1)) (o, rest) e in
        let front = flag_takes bytes f.0.0 f.0.1 are f.1 in
        option_behind f.0.0 f.0.1 o rest front.are_bytes f.2 bytes front;
  }

-- the arm of a tag that is told to be this one
pub arm_at : {A B : Type 0} {fits : A → Type 0} {write : A → Bytes} {read : Reader A}
    → IsForm fits write read → (make : A → B) (is_fit : B → Type 0) (spelled : B → Bytes) (tag : ℕ)
    → ((a : A) → fits a → spelled (make a) ≡ tag ∷ write a) → ((a : A) → fits a → is_fit (make a))
    → (t : ℕ) (bytes : Bytes) (x : B) (rest : Bytes) → IsBytes bytes → t ≡ tag → as_at make read bytes ≡ Some (x, rest) → Takes (t ∷ bytes) (spelled x) rest × is_fit x
arm_at form make is_fit spelled tag spells fit_of t bytes x rest are is e =
    subst (λ n. Takes (n ∷ bytes) (spelled x) rest × is_fit x) (sym is) (arm_takes form make is_fit spelled tag spells fit_of bytes x rest are e)
