-- Workers that take the lines of a phase one after another.
use Rattle.crew_run.proofs.Common.{ℕ, ◌+◌, ◌-◌, ◌<◌, ◌∙◌, ◌∷◌, ◌≡◌, ◌≢◌, [], AllZip, ap, arith, CallFault, CanWork, desk_view, drop, File, get_or, get_or-set_other, get_or_default, HasForgotten, HasWorked}
use Rattle.crew_run.proofs.Common.{IsDeskOf, IsReadyAt, length, Line, List, None, Option, refl, roles_in, roles_of, Server, set, slice_get, slice_get-get_or, Some, subst, sym, TakesLine, Worker}
use Rattle.std.proofs.lemmas.{Grind.get_or-set_at, List.Elements.AllZip-get_or}
use mathlib.Core.Logic.{dite}
use native.Mathlib.Decide.{ℕ_discrete}
use Rattle.adept_actor.proofs.Lines.{IsAmong as Among, IsOnItsWay, among-first, way-last, way-on, way-over}
use Rattle.file_model.specs.declared.files.ActorDecl.{ActorDecl}

-- a worker among the lines of a phase, of which some are left
abbrev pub IsAmong : Server → File → List Line → List Line → Worker → Worker → Type 0
IsAmong s f whole left w x = IsOnItsWay s (roles_of f (desk_view w.desk).number) whole (desk_view w.desk) left x.desk x.fault

module _ (s : Server) (f : File) (lines : List Line) (w : Worker) where
  abbrev roles : List ℕ
  roles = roles_of f (desk_view w.desk).number

  -- no line is worked yet
  among-forgot : (x : Worker) → HasForgotten w x → IsDeskOf s w.desk → CanWork (desk_view w.desk) lines → IsAmong s f lines lines w x
  among-forgot x (same, none) desk can = subst (IsOnItsWay s roles lines (desk_view w.desk) lines x.desk) (sym none) (subst (Among s roles lines (desk_view w.desk) lines) (sym same) (among-first s roles lines w.desk desk can))

  -- the worker whose line it is takes it
  among-on : (l : Line) (left : List Line) (i : ℕ) (x y : Worker) → drop i lines ≡ l ∷ left → IsAmong s f lines (l ∷ left) w x → l.actor ≡ (desk_view w.desk).number → IsDeskOf s y.desk → TakesLine roles l x y x.fault → IsAmong s f lines left w y
  among-on l left i x y split k own desk = go x.fault refl k
    where
      go : (o : Option CallFault) → x.fault ≡ o → IsOnItsWay s roles lines (desk_view w.desk) (l ∷ left) x.desk o → TakesLine roles l x y o → IsAmong s f lines left w y
      go (Some fault) is k same = subst (IsAmong s f lines left w) (sym same) (subst (IsOnItsWay s roles lines (desk_view w.desk) left x.desk) (sym is) k)
      go None is k acts = way-on s roles lines (desk_view w.desk) l left x.desk i y.desk y.fault split k own desk acts

-- the roles of the actor at a place
pub roles-at : (f : File) (items : List ActorDecl) (n i : ℕ) (d : ActorDecl) → items ≡ f.actors → n ≡ i + 1 → i < length f.actors → (get_or items i d).roles ≡ roles_of f n
roles-at f items n i d same number low =
    let place : n - 1 ≡ i = omega (arith, number) in
    ap (λ (xs : List ActorDecl). (get_or xs i d).roles) same ∙ sym (ap (λ k. roles_in (slice_get f.actors k)) place ∙ ap roles_in (slice_get-get_or f.actors i d low))

module _ (s : Server) (f : File) (lines : List Line) (old crew : List Worker) where
  -- a crew before the first line
  pub crew-first : AllZip HasForgotten old crew → ((i : ℕ) (d : Worker) → i < length old → IsReadyAt s lines i (get_or old i d)) → (i : ℕ) (d : Worker) → i < length old → IsAmong s f lines lines (get_or old i d) (get_or crew i d)
  crew-first forgot ready i d low = let r = ready i d low in among-forgot s f lines (get_or old i d) (get_or crew i d) (AllZip-get_or HasForgotten old crew i d d forgot low) r.1 r.2

  -- a crew whose worker at a place has taken the next line
  pub crew-next : (l : Line) (left : List Line) (k n : ℕ) (x y : Worker) → drop k lines ≡ l ∷ left → ((i : ℕ) (d : Worker) → i < length old → IsReadyAt s lines i (get_or old i d)) → l.actor ≡ n + 1 → length crew ≡ length old → n < length old
      → x ≡ get_or crew n x → IsDeskOf s y.desk → TakesLine (roles_of f (n + 1)) l x y x.fault → ((i : ℕ) (d : Worker) → i < length old → IsAmong s f lines (l ∷ left) (get_or old i d) (get_or crew i d))
      → (i : ℕ) (d : Worker) → i < length old → IsAmong s f lines left (get_or old i d) (get_or (set crew n y) i d)
  crew-next l left k n x y split ready actor many within is desk takes among i d low =
      dite (ℕ_discrete i n)
      (λ (same : i ≡ n).
      let w = get_or old i d in
      let is_x : get_or crew i d ≡ x = ap (λ m. get_or crew m d) same ∙ (get_or_default crew n d x (omega (arith, many, within)) ∙ sym is) in
      let number : (desk_view w.desk).number ≡ n + 1 = (ready i d low).0 ∙ ap (λ m. m + 1) same in
      let before : IsAmong s f lines (l ∷ left) w x = subst (IsAmong s f lines (l ∷ left) w) is_x (among i d low) in
      subst (IsAmong s f lines left w) (sym (get_or-set_at crew n i y d same (omega (arith, many, within))))
      (among-on s f lines w l left k x y split before (actor ∙ sym number) desk (subst (λ m. TakesLine (roles_of f m) l x y x.fault) (sym number) takes)))
      (λ (not : i ≢ n).
      let w = get_or old i d in
      let x = get_or crew i d in
      let number = (ready i d low).0 in
      subst (IsAmong s f lines left w) (sym (get_or-set_other crew n i y d not)) (way-over s (roles_of f (desk_view w.desk).number) lines (desk_view w.desk) l left x.desk x.fault (among i d low) (λ own. not (omega (arith, own, number, actor)))))

  -- a crew behind the last line
  pub crew-last : ((i : ℕ) (d : Worker) → i < length old → IsAmong s f lines [] (get_or old i d) (get_or crew i d)) → (i : ℕ) (d : Worker) → i < length old → HasWorked s f lines (get_or old i d) (get_or crew i d)
  crew-last among i d low = let w = get_or old i d in let x = get_or crew i d in way-last s (roles_of f (desk_view w.desk).number) lines (desk_view w.desk) x.desk x.fault (among i d low)
