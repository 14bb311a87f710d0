-- The queues of versions tell each line the version that its actor was told.
use Rattle.case_audit.proofs.Common.{[], ℕ, ◌&&◌, ◌++◌, ◌+◌, ◌<◌, ◌==◌, ◌∙◌, ◌∷◌, ◌≡◌, ◌≤◌, all_told, AllRows, and_told, ap, append-nil, append_assoc, arith, Asked, asked_by, asked_lines, asked_phases, asks, behind_front, Bool, calls_of}
use Rattle.case_audit.proofs.Common.{ClosedKind, drop, drop_all, drop_more, eq-eqb, eqb-true, false, File, first_of, fold, front_of, get_or, if-either, if◌then◌else◌, IsKnown, IsWorkable, journal_of, journal_told, KindEntry, left_by}
use Rattle.case_audit.proofs.Common.{left_in, left_to_tell, length, length-replicate, Line, List, next_version, None, none_told, one_taken, Option, queue_of, Queues, refl, rest_of, script_by, set-many, slice_get, Some, subst, suc, sym}
use Rattle.case_audit.proofs.Common.{Telling, telling, told_at, told_by, told_in, told_to, true, version_for, VersionModel, with_told, with_version, zero}
use Rattle.case_audit.proofs.QueueLists.{added-another, added-own, none-in, none-of, set-another, set-own, taken-another, taken-own}

-- the queues are what each of so many actors has yet to be told
abbrev Tells : ℕ → Queues → Telling → Type 0
Tells actors told q = (t a : ℕ) → a < actors + 1 → queue_of (queue_of told t) a ≡ q a t

-- the lines of so many actors
abbrev pub AreOf : ℕ → List Line → Type 0
AreOf actors lines = AllRows (λ (l : Line). l.actor < actors + 1) lines

-- ---- one line
front-first : {X : Type 0} (xs : List X) → front_of xs ≡ first_of xs
front-first [] = refl
front-first (x ∷ xs) = refl

behind-rest : {X : Type 0} (xs : List X) → behind_front xs ≡ rest_of xs
behind-rest [] = refl
behind-rest (x ∷ xs) = refl

next-version : (actors : ℕ) (told : Queues) (q : Telling) (a : ℕ) (o : Option ℕ) → a < actors + 1 → Tells actors told q → next_version told a o ≡ version_for q a o
next-version actors told q a None low tells = refl
next-version actors told q a (Some t) low tells = ap front_of (tells t a low) ∙ front-first (q a t)

left-version : (actors : ℕ) (told : Queues) (q : Telling) (a : ℕ) (o : Option ℕ) → Tells actors told q → Tells actors (left_in told a o) (told_at q a o)
left-version actors told q a None tells = tells
left-version actors told q a (Some t) tells = λ u b low. by u b low (b == a) (u == t) refl refl
  where
    none-taken : length told ≤ t → one_taken a (queue_of told t) ≡ []
    none-taken past = ap (one_taken a) (none-of told t past)

    by : (u b : ℕ) → b < actors + 1 → (own here : Bool) → (b == a) ≡ own → (u == t) ≡ here → queue_of (queue_of (left_in told a (Some t)) u) b ≡ (if own && here then rest_of (q b u) else q b u)
    by u b low own false is not =
        ap (λ qs. queue_of qs b) (set-another told t u (one_taken a (queue_of told t)) (λ same. cc (not, eq-eqb u t same))) ∙ (tells u b low ∙ both own)
      where
        both : (own : Bool) → q b u ≡ (if own && false then rest_of (q b u) else q b u)
        both true = refl
        both false = refl
    by u b low true true is here =
        let same : u ≡ t = eqb-true u t here in
        let own : b ≡ a = eqb-true b a is in
        ap (λ v. queue_of (queue_of (left_in told a (Some t)) v) b) same
        ∙ (ap (λ qs. queue_of qs b) (set-own told t (one_taken a (queue_of told t)) none-taken)
        ∙ (ap (queue_of (one_taken a (queue_of told t))) own
        ∙ (taken-own (queue_of told t) a
        ∙ (ap behind_front (ap (queue_of (queue_of told t)) (sym own) ∙ (tells t b low ∙ ap (q b) (sym same))) ∙ behind-rest (q b u)))))
    by u b low false true is here =
        let same : u ≡ t = eqb-true u t here in
        ap (λ v. queue_of (queue_of (left_in told a (Some t)) v) b) same
        ∙ (ap (λ qs. queue_of qs b) (set-own told t (one_taken a (queue_of told t)) none-taken)
        ∙ (taken-another (queue_of told t) a b (λ own. cc (is, eq-eqb b a own)) ∙ (tells t b low ∙ ap (q b) (sym same))))

-- ---- all lines
asked-told : (actors : ℕ) (lines : List Line) (told : Queues) (q : Telling) → AreOf actors lines → Tells actors told q → (asked_by told lines ≡ asked_lines q lines) × Tells actors (left_by told lines) (left_to_tell q lines)
asked-told actors [] told q all tells = (refl, tells)
asked-told actors (l ∷ ls) told q (one, all) tells =
    let (same, left) = asked-told actors ls (left_in told l.actor (asks l.act)) (told_at q l.actor (asks l.act)) all (left-version actors told q l.actor (asks l.act) tells) in
    (ap (λ v. (l, v) ∷ asked_by (left_in told l.actor (asks l.act)) ls) (next-version actors told q l.actor (asks l.act) one tells) ∙ ap (λ more. (l, version_for q l.actor (asks l.act)) ∷ more) same, left)

script-told : (actors : ℕ) (phases : List (List Line)) (told : Queues) (q : Telling) → AllRows (AreOf actors) phases → Tells actors told q → script_by told phases ≡ asked_phases q phases
script-told actors [] told q all tells = refl
script-told actors (lines ∷ phases) told q (one, all) tells =
    let (same, left) = asked-told actors lines told q one tells in
    ap (λ more. more ∷ script_by (left_by told lines) phases) same ∙ ap (λ more. asked_lines q lines ∷ more) (script-told actors phases (left_by told lines) (left_to_tell q lines) all left)

-- ---- the script's lines, of a file that can be worked
known-of : (types actors : ℕ) (f : File) (lines : List Line) → AllRows (IsKnown types actors f.cases) lines → AreOf actors lines
known-of types actors f [] all = tt
known-of types actors f (l ∷ ls) (one, all) = (omega (arith, one.actor), known-of types actors f ls all)

all-known : (types actors : ℕ) (f : File) (phases : List (List Line)) → AllRows (AllRows (IsKnown types actors f.cases)) phases → AllRows (AreOf actors) phases
all-known types actors f [] all = tt
all-known types actors f (lines ∷ phases) (one, all) = (known-of types actors f lines one, all-known types actors f phases all)

script-known : (f : File) (told : Queues) (q : Telling) → IsWorkable f → Tells (length f.actors) told q → script_by told f.phases ≡ asked_phases q f.phases
script-known f told q workable begun = script-told (length f.actors) f.phases told q (all-known (length f.types) (length f.actors) f f.phases workable.known) begun

-- phase by phase
pub script-step : (told left : Queues) (made more : List (List Asked)) (phases : List (List Line)) (i : ℕ) (lines : List Line) → i < length phases → lines ≡ get_or phases i lines
    → more ≡ made ++ asked_by told lines ∷ [] → left ≡ left_by told lines → more ++ script_by left (drop (i + 1) phases) ≡ made ++ script_by told (drop i phases)
script-step told left made more phases i lines low is longer behind =
    let rest : drop i phases ≡ lines ∷ drop (i + 1) phases = drop_more phases i lines low ∙ ap (λ x. x ∷ drop (i + 1) phases) (sym is) in
    ap (λ xs. xs ++ script_by left (drop (i + 1) phases)) longer
    ∙ (ap (λ q. (made ++ asked_by told lines ∷ []) ++ script_by q (drop (i + 1) phases)) behind
    ∙ (append_assoc made (asked_by told lines ∷ []) (script_by (left_by told lines) (drop (i + 1) phases)) ∙ ap (λ ps. made ++ script_by told ps) (sym rest)))

pub script-end : (told : Queues) (made : List (List Asked)) (phases : List (List Line)) (i : ℕ) → length phases ≤ i → made ≡ made ++ script_by told (drop i phases)
script-end told made phases i past = sym (append-nil made) ∙ ap (λ ps. made ++ script_by told ps) (sym (drop_all i phases past))

-- ---- the queues of one type are filled from its journal
version-added : (queues : List (List VersionModel)) (b : ℕ) (o : Option VersionModel) (a : ℕ) → a < length queues → queue_of (with_version b o queues) a ≡ queue_of queues a ++ (if b == a then and_told o [] else [])
version-added queues b None a low = if-either (λ vs. queue_of queues a ≡ queue_of queues a ++ vs) (b == a) [] [] (λ own. sym (append-nil (queue_of queues a))) (λ not. sym (append-nil (queue_of queues a)))
version-added queues b (Some v) a low =
    if-either (λ vs. queue_of (with_version b (Some v) queues) a ≡ queue_of queues a ++ vs) (b == a) (v ∷ []) []
    (λ own. subst (λ c. queue_of (with_version c (Some v) queues) a ≡ queue_of queues a ++ v ∷ []) (sym (eqb-true b a own)) (added-own queues a v low))
    (λ not. added-another queues b a v (λ own. cc (not, eq-eqb b a (sym own))) ∙ sym (append-nil (queue_of queues a)))

versions-many : (queues : List (List VersionModel)) (b : ℕ) (o : Option VersionModel) → length (with_version b o queues) ≡ length queues
versions-many queues b None = refl
versions-many queues b (Some v) = set-many queues b (queue_of queues b ++ v ∷ [])

told-more : (a : ℕ) (e : KindEntry) (es : List KindEntry) (queue : List VersionModel) → (queue ++ (if e.caller == a then and_told (told_by e.event e.reply) [] else [])) ++ told_to a es ≡ queue ++ told_to a (e ∷ es)
told-more a e es queue = append_assoc queue (if e.caller == a then and_told (told_by e.event e.reply) [] else []) (told_to a es) ∙ ap (λ vs. queue ++ vs) (by (e.caller == a) (told_by e.event e.reply) refl)
  where
    by : (own : Bool) (o : Option VersionModel) → told_by e.event e.reply ≡ o → (if own then and_told o [] else []) ++ told_to a es ≡ told_in (if own then e ∷ calls_of a es else calls_of a es)
    by true None none = ap (λ o. and_told o (told_to a es)) (sym none)
    by true (Some v) is = ap (λ o. and_told o (told_to a es)) (sym is)
    by false o is = refl

told-journal : (actors : ℕ) (journal : List KindEntry) (queues : List (List VersionModel)) → length queues ≡ actors + 1
    → (length (fold with_told queues journal) ≡ actors + 1) × ((a : ℕ) → a < actors + 1 → queue_of (fold with_told queues journal) a ≡ queue_of queues a ++ told_to a journal)
told-journal actors [] queues many = (many, λ a low. sym (append-nil (queue_of queues a)))
told-journal actors (e ∷ es) queues many =
    let (long, more) = told-journal actors es (with_told queues e) (versions-many queues e.caller (told_by e.event e.reply) ∙ many) in (
      long,
      λ a low. more a low ∙ (ap (λ vs. vs ++ told_to a es) (version-added queues e.caller (told_by e.event e.reply) a (omega (arith, many, low))) ∙ told-more a e es (queue_of queues a)),
    )

told-by : (actors : ℕ) (journal : List KindEntry) (a : ℕ) → a < actors + 1 → queue_of (journal_told actors journal) a ≡ told_to a journal
told-by actors journal a low =
    let (long, more) = told-journal actors journal (none_told actors) (length-replicate (actors + 1) []) in
    more a low ∙ ap (λ vs. vs ++ told_to a journal) (none-in (actors + 1) a)

-- what the journals of all types told
begun-tells : (actors : ℕ) (kinds : List ClosedKind) → Tells actors (all_told actors kinds) (telling kinds)
begun-tells actors kinds = λ t a low. by kinds t a low
  where
    by : (kinds : List ClosedKind) (t a : ℕ) → a < actors + 1 → queue_of (queue_of (all_told actors kinds) t) a ≡ told_to a (journal_of (slice_get kinds t))
    by [] t a low = refl
    by (k ∷ ks) zero a low = told-by actors k.journal a low
    by (k ∷ ks) (suc t) a low = by ks t a low

pub script-asked : (f : File) (kinds : List ClosedKind) → IsWorkable f → script_by (all_told (length f.actors) kinds) f.phases ≡ asked_phases (telling kinds) f.phases
script-asked f kinds workable = script-known f (all_told (length f.actors) kinds) (telling kinds) workable (begun-tells (length f.actors) kinds)
