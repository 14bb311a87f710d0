use Rattle.wsm_settle.proofs.{Common.{◌+◌, ◌<◌, ◌∙◌, ◌∷◌, ◌≡◌, All, ap, drop, flagged, length, subst, sym}, Flagged.{behind-least, lowered}}
use Rattle.wsm_settle.proofs.flags.take_flag.Goals as goal

pub returns-clause-removal : goal.returns-clause-removal
returns-clause-removal c =
    let flags = c.args.flags.now.items in
    let place = c.in_ok-place.place in
    let low : place < length flags = subst (λ bs. place < length bs) c.deref.ensures.value c.in_ok-place.ensures.within in
    let found : flagged 0 flags ≡ place ∷ flagged (place + 1) (drop (place + 1) flags) = subst (λ bs. flagged 0 bs ≡ place ∷ flagged (place + 1) (drop (place + 1) bs)) c.deref.ensures.value c.in_ok-place.ensures.found in
    found ∙ ap (λ ks. place ∷ ks) (sym (lowered place flags (flagged (place + 1) (drop (place + 1) flags)) low found))

pub returns-clause-above : goal.returns-clause-above
returns-clause-above c =
    let flags = c.args.flags.now.items in
    let place = c.in_ok-place.place in
    let low : place < length flags = subst (λ bs. place < length bs) c.deref.ensures.value c.in_ok-place.ensures.within in
    let found : flagged 0 flags ≡ place ∷ flagged (place + 1) (drop (place + 1) flags) = subst (λ bs. flagged 0 bs ≡ place ∷ flagged (place + 1) (drop (place + 1) bs)) c.deref.ensures.value c.in_ok-place.ensures.found in
    subst (All (λ y. place < y)) (sym (lowered place flags (flagged (place + 1) (drop (place + 1) flags)) low found)) (behind-least place (drop (place + 1) flags))
