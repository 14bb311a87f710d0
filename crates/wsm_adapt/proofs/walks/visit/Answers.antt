use Rattle.wsm_adapt.proofs.Common.{◌+◌, ◌||◌, ◌∙◌, ◌∷◌, ◌≡◌, ◌≤◌, AllWithin, ap, arith, get_or, GoesOn, Handed, handed-within, if◌then◌else◌, is_named, KeepsTold, leads_to, length, loop_end, Mark, None, on_ok, Option, option_copied, rules}
use Rattle.wsm_adapt.proofs.{Common.{slice_index, Some, SpendsOn, StaysInside, subst, sym, unknown_in}, ReadBorder.unknown-like, Visiting.{few-visit, goes-new, goes-none, goes-same, keeps-put, put-less, spends-visit, stays-new, stays-same}}
use Rattle.wsm_adapt.proofs.walks.visit.Goals as goal

pub returns-in-None-clause-walked : goal.returns-in-None-clause-walked
returns-in-None-clause-walked g c = λ goal touched aim st.
    goes-none c.args.flat.now.cards c.args.rank.now aim.ranked c.args.place (slice_index c.nodes.result.now c.args.place) 0 c.args.pending.now.keys c.requires.place (ap (λ l. get_or l c.args.place 0) (sym c.nodes.ensures)) c.requires.behind
    (sym c.card.ensures ∙ ap option_copied c.in-None.is) c.args.found.now (g.M.MarkReads.kept c.args.marks.now) goal touched aim st

pub returns-then-not-branch-clause-walked : goal.returns-then-not-branch-clause-walked
returns-then-not-branch-clause-walked g c = λ goal touched aim st.
    let o : Option Mark = if c.in_ok-revise-in-Some.field-0 then Some c.revise.new.mark else None in
    let none : o ≡ None = search rules in
    goes-same c.args.flat.now.cards c.args.rank.now aim.ranked c.args.place (slice_index c.nodes.result.now c.args.place) 0 c.args.pending.now.keys c.requires.place (ap (λ l. get_or l c.args.place 0) (sym c.nodes.ensures)) c.requires.behind
    c.in-Some.card.now (sym c.card.ensures ∙ ap option_copied c.in-Some.is) c.args.found.now c.read_visited.new.found (g.M.MarkReads.kept c.args.marks.now)
    c.in_ok-read_visited-in-Some.ensures.visited o c.in_ok-revise-in-Some.ensures.mark none goal touched aim st

pub returns-then-not-branch-clause-inside : goal.returns-then-not-branch-clause-inside
returns-then-not-branch-clause-inside g c = λ inside ranked closed con.
    stays-same c.args.flat.now.cards c.args.rank.now ranked c.args.place (slice_index c.nodes.result.now c.args.place) 0 c.args.pending.now.keys c.requires.place (ap (λ l. get_or l c.args.place 0) (sym c.nodes.ensures)) c.requires.behind
    c.in-Some.card.now (sym c.card.ensures ∙ ap option_copied c.in-Some.is) c.args.found.now c.read_visited.new.found (g.M.MarkReads.kept c.args.marks.now) c.in_ok-read_visited-in-Some.ensures.visited inside ranked closed con

pub returns-then-not-branch-clause-spent : goal.returns-then-not-branch-clause-spent
returns-then-not-branch-clause-spent g c = λ inside all ranked covered con.
    spends-visit c.args.flat.now.cards c.args.rank.now ranked c.args.place (slice_index c.nodes.result.now c.args.place) 0 c.args.pending.now.keys c.requires.place (ap (λ l. get_or l c.args.place 0) (sym c.nodes.ensures)) c.requires.behind
    c.in-Some.card.now (sym c.card.ensures ∙ ap option_copied c.in-Some.is) c.args.found.now c.read_visited.new.found (g.M.MarkReads.reads c.args.marks.now) (g.M.MarkReads.reads c.read_visited.new.marks) c.in_ok-read_visited-in-Some.ensures.spent c.read_visited.new.found (λ ns. omega arith) inside all ranked covered con

pub returns-then-not-branch-clause-few : goal.returns-then-not-branch-clause-few
returns-then-not-branch-clause-few g c = λ inside all ranked closed covered con.
    few-visit c.args.flat.now.cards c.args.rank.now ranked c.args.place (slice_index c.nodes.result.now c.args.place) 0 c.args.pending.now.keys c.requires.place (ap (λ l. get_or l c.args.place 0) (sym c.nodes.ensures)) c.requires.behind
    c.in-Some.card.now (sym c.card.ensures ∙ ap option_copied c.in-Some.is) c.args.found.now c.read_visited.new.found (g.M.MarkReads.reads c.args.marks.now) (g.M.MarkReads.reads c.read_visited.new.marks) c.read_visited.ensures.few inside all ranked closed covered con

pub returns-in_err-read_visited-in-Some-clause-few : goal.returns-in_err-read_visited-in-Some-clause-few
returns-in_err-read_visited-in-Some-clause-few g c = λ inside all ranked closed covered con.
    few-visit c.args.flat.now.cards c.args.rank.now ranked c.args.place (slice_index c.nodes.result.now c.args.place) 0 c.args.pending.now.keys c.requires.place (ap (λ l. get_or l c.args.place 0) (sym c.nodes.ensures)) c.requires.behind
    c.in-Some.card.now (sym c.card.ensures ∙ ap option_copied c.in-Some.is) c.args.found.now c.read_visited.new.found (g.M.MarkReads.reads c.args.marks.now) (g.M.MarkReads.reads c.read_visited.new.marks) c.read_visited.ensures.few inside all ranked closed covered con

pub returns-in_err-revise-in-Some-clause-few : goal.returns-in_err-revise-in-Some-clause-few
returns-in_err-revise-in-Some-clause-few g c = λ inside all ranked closed covered con.
    few-visit c.args.flat.now.cards c.args.rank.now ranked c.args.place (slice_index c.nodes.result.now c.args.place) 0 c.args.pending.now.keys c.requires.place (ap (λ l. get_or l c.args.place 0) (sym c.nodes.ensures)) c.requires.behind
    c.in-Some.card.now (sym c.card.ensures ∙ ap option_copied c.in-Some.is) c.args.found.now c.read_visited.new.found (g.M.MarkReads.reads c.args.marks.now) (g.M.MarkReads.reads c.read_visited.new.marks) c.read_visited.ensures.few inside all ranked closed covered con

pub returns-in_err-note-in-Some-clause-few : goal.returns-in_err-note-in-Some-clause-few
returns-in_err-note-in-Some-clause-few g c = λ inside all ranked closed covered con.
    few-visit c.args.flat.now.cards c.args.rank.now ranked c.args.place (slice_index c.nodes.result.now c.args.place) 0 c.args.pending.now.keys c.requires.place (ap (λ l. get_or l c.args.place 0) (sym c.nodes.ensures)) c.requires.behind
    c.in-Some.card.now (sym c.card.ensures ∙ ap option_copied c.in-Some.is) c.args.found.now c.read_visited.new.found (g.M.MarkReads.reads c.args.marks.now) (g.M.MarkReads.reads c.read_visited.new.marks) c.read_visited.ensures.few inside all ranked closed covered con

pub returns-in_ok-note-in-Some-clause-few : goal.returns-in_ok-note-in-Some-clause-few
returns-in_ok-note-in-Some-clause-few g c = λ inside all ranked closed covered con.
    few-visit c.args.flat.now.cards c.args.rank.now ranked c.args.place (slice_index c.nodes.result.now c.args.place) 0 c.args.pending.now.keys c.requires.place (ap (λ l. get_or l c.args.place 0) (sym c.nodes.ensures)) c.requires.behind
    c.in-Some.card.now (sym c.card.ensures ∙ ap option_copied c.in-Some.is) c.args.found.now c.read_visited.new.found (g.M.MarkReads.reads c.args.marks.now) (g.M.MarkReads.reads c.read_visited.new.marks) c.read_visited.ensures.few inside all ranked closed covered con

pub returns-in_ok-note-in-Some-clause-walked : goal.returns-in_ok-note-in-Some-clause-walked
returns-in_ok-note-in-Some-clause-walked g c =
    let o : Option Mark = if c.in_ok-revise-in-Some.field-0 then Some c.revise.new.mark else None in
    let some : o ≡ Some c.revise.new.mark = search rules in
    on_ok (Handed c.args.rank.now (λ k. is_named (loop_end c.in-Some.card.now) k || leads_to c.in-Some.card.now k) (c.args.place + 1) c.args.pending.now.keys c.hand_all.new.pending.keys)
    (GoesOn c.args.flat.now.cards c.args.rank.now (g.M.MarkReads.kept c.args.marks.now) (c.args.place ∷ c.args.pending.now.keys) c.args.found.now c.hand_all.new.pending.keys c.note.new.found)
    (λ handed goal touched aim st.
    goes-new c.args.flat.now.cards c.args.rank.now aim.ranked c.args.place (slice_index c.nodes.result.now c.args.place) 0 c.args.pending.now.keys c.requires.place (ap (λ l. get_or l c.args.place 0) (sym c.nodes.ensures)) c.requires.behind
    c.in-Some.card.now (sym c.card.ensures ∙ ap option_copied c.in-Some.is) c.args.found.now c.read_visited.new.found (g.M.MarkReads.kept c.args.marks.now) c.in_ok-read_visited-in-Some.ensures.visited
    o c.in_ok-revise-in-Some.ensures.mark c.revise.new.mark some c.note.new.found c.in_ok-note-in-Some.ensures.known c.in_ok-note-in-Some.ensures.changes c.in_ok-note-in-Some.ensures.nodes c.hand_all.new.pending.keys handed goal touched aim st)
    c.hand_all.result c.hand_all.ensures.handed

pub returns-in_ok-note-in-Some-clause-inside : goal.returns-in_ok-note-in-Some-clause-inside
returns-in_ok-note-in-Some-clause-inside g c =
    on_ok (Handed c.args.rank.now (λ k. is_named (loop_end c.in-Some.card.now) k || leads_to c.in-Some.card.now k) (c.args.place + 1) c.args.pending.now.keys c.hand_all.new.pending.keys)
    (StaysInside c.args.flat.now.cards c.args.rank.now (c.args.place ∷ c.args.pending.now.keys) c.args.found.now c.hand_all.new.pending.keys c.note.new.found)
    (λ handed inside ranked closed con.
    stays-new c.args.flat.now.cards c.args.rank.now ranked c.args.place (slice_index c.nodes.result.now c.args.place) 0 c.args.pending.now.keys c.requires.place (ap (λ l. get_or l c.args.place 0) (sym c.nodes.ensures)) c.requires.behind
    c.in-Some.card.now (sym c.card.ensures ∙ ap option_copied c.in-Some.is) c.args.found.now c.read_visited.new.found (g.M.MarkReads.kept c.args.marks.now) c.in_ok-read_visited-in-Some.ensures.visited c.note.new.found c.in_ok-note-in-Some.ensures.nodes c.hand_all.new.pending.keys handed inside ranked closed con)
    c.hand_all.result c.hand_all.ensures.handed

pub returns-in_ok-note-in-Some-clause-told : goal.returns-in_ok-note-in-Some-clause-told
returns-in_ok-note-in-Some-clause-told g c =
    on_ok (Handed c.args.rank.now (λ k. is_named (loop_end c.in-Some.card.now) k || leads_to c.in-Some.card.now k) (c.args.place + 1) c.args.pending.now.keys c.hand_all.new.pending.keys) (KeepsTold c.args.found.now c.note.new.found)
    (λ handed. keeps-put (g.M.MarkReads.kept c.args.marks.now) c.in-Some.card.now c.args.found.now c.read_visited.new.found c.note.new.found _ c.in_ok-read_visited-in-Some.ensures.visited c.in_ok-note-in-Some.ensures.changes) c.hand_all.result c.hand_all.ensures.handed

pub returns-in_ok-note-in-Some-clause-spent : goal.returns-in_ok-note-in-Some-clause-spent
returns-in_ok-note-in-Some-clause-spent g c =
    on_ok (Handed c.args.rank.now (λ k. is_named (loop_end c.in-Some.card.now) k || leads_to c.in-Some.card.now k) (c.args.place + 1) c.args.pending.now.keys c.hand_all.new.pending.keys)
    (SpendsOn c.args.flat.now.cards c.args.rank.now (g.M.MarkReads.reads c.args.marks.now) (c.args.place ∷ c.args.pending.now.keys) c.args.found.now (g.M.MarkReads.reads c.read_visited.new.marks) c.note.new.found)
    (λ handed inside all ranked covered con.
    spends-visit c.args.flat.now.cards c.args.rank.now ranked c.args.place (slice_index c.nodes.result.now c.args.place) 0 c.args.pending.now.keys c.requires.place (ap (λ l. get_or l c.args.place 0) (sym c.nodes.ensures)) c.requires.behind
    c.in-Some.card.now (sym c.card.ensures ∙ ap option_copied c.in-Some.is) c.args.found.now c.read_visited.new.found (g.M.MarkReads.reads c.args.marks.now) (g.M.MarkReads.reads c.read_visited.new.marks) c.in_ok-read_visited-in-Some.ensures.spent c.note.new.found
    (λ ns. subst (λ k. k ≤ unknown_in c.read_visited.new.found.known ns) (sym (unknown-like _ c.note.new.found.known c.in_ok-note-in-Some.ensures.known ns)) (put-less c.read_visited.new.found.known _ ns)) inside all ranked covered con)
    c.hand_all.result c.hand_all.ensures.handed

pub returns-in_ok-note-in-Some-clause-within : goal.returns-in_ok-note-in-Some-clause-within
returns-in_ok-note-in-Some-clause-within g c =
    on_ok (Handed c.args.rank.now (λ k. is_named (loop_end c.in-Some.card.now) k || leads_to c.in-Some.card.now k) (c.args.place + 1) c.args.pending.now.keys c.hand_all.new.pending.keys) (AllWithin (length c.args.rank.now) c.hand_all.new.pending.keys)
    (λ handed. handed-within c.args.rank.now (c.args.place + 1) (λ k. is_named (loop_end c.in-Some.card.now) k || leads_to c.in-Some.card.now k) c.args.pending.now.keys c.hand_all.new.pending.keys handed c.requires.within)
    c.hand_all.result c.hand_all.ensures.handed
