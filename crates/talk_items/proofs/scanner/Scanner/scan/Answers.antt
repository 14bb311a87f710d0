use Rattle.talk_items.proofs.{Common.{[], ◌++◌, ◌-◌, ◌==◌, ◌∙◌, ◌∷◌, ◌≡◌, ap, arith, Bytes, drop, ends, HasNoFeed, length, length-drop, None, Some, subst, sym, take, take_all, position}, Feeds.{first-feed, no-feeds}, Scanned.scan-all}
use Rattle.talk_items.proofs.Scanned.{scan-ends, scan-line, scan-none}
use Rattle.talk_items.proofs.scanner.Scanner.scan.Goals as goal

pub loop-len-init : goal.loop-len-init
loop-len-init c = record { within = omega arith; so_far = scan-none c.args.self.now c.args.bytes.now }

pub end_line-requires : goal.end_line-requires
end_line-requires c =
    let rest = drop c.loop-len.done c.args.bytes.now in
    let all : take (length c.args.bytes.now - c.loop-len.done) rest ≡ rest = take_all (length c.args.bytes.now - c.loop-len.done) rest (omega (arith, length-drop c.loop-len.done c.args.bytes.now)) in
    let found : position (λ byte. byte == 10) rest ≡ Some c.in-Some.len = subst (λ l. position (λ byte. byte == 10) l ≡ Some c.in-Some.len) all (sym c.feed_at.ensures ∙ c.in-Some.is) in
    let feed = first-feed rest c.in-Some.len found in
    subst HasNoFeed (sym (c.split_at.ensures.front ∙ ap (take c.in-Some.len) all)) feed.none

pub returns-then-end_line-clause-end : goal.returns-then-end_line-clause-end
returns-then-end_line-clause-end c =
    let rest = drop c.loop-len.done c.args.bytes.now in
    let all : take (length c.args.bytes.now - c.loop-len.done) rest ≡ rest = take_all (length c.args.bytes.now - c.loop-len.done) rest (omega (arith, length-drop c.loop-len.done c.args.bytes.now)) in
    let found : position (λ byte. byte == 10) rest ≡ Some c.in-Some.len = subst (λ l. position (λ byte. byte == 10) l ≡ Some c.in-Some.len) all (sym c.feed_at.ensures ∙ c.in-Some.is) in
    let line = c.split_at.ensures.front ∙ ap (take c.in-Some.len) all in
    let more = c.end_line.ensures.bytes ∙ ap (λ (l : Bytes). c.loop-len.self ++ (l ++ 10 ∷ [])) line in
    let ends_there = ap (λ (l : Bytes). ends (c.loop-len.self ++ l) 10) (sym line) ∙ sym c.end_line.ensures.ends ∙ c.if-end_line.true in
    sym (scan-ends c.loop-len.invariant.so_far c.in-Some.len (first-feed rest c.in-Some.len found) c.end_line.new.self more ends_there).0

pub returns-then-end_line-clause-bytes : goal.returns-then-end_line-clause-bytes
returns-then-end_line-clause-bytes c =
    let rest = drop c.loop-len.done c.args.bytes.now in
    let all : take (length c.args.bytes.now - c.loop-len.done) rest ≡ rest = take_all (length c.args.bytes.now - c.loop-len.done) rest (omega (arith, length-drop c.loop-len.done c.args.bytes.now)) in
    let found : position (λ byte. byte == 10) rest ≡ Some c.in-Some.len = subst (λ l. position (λ byte. byte == 10) l ≡ Some c.in-Some.len) all (sym c.feed_at.ensures ∙ c.in-Some.is) in
    let line = c.split_at.ensures.front ∙ ap (take c.in-Some.len) all in
    let more = c.end_line.ensures.bytes ∙ ap (λ (l : Bytes). c.loop-len.self ++ (l ++ 10 ∷ [])) line in
    let ends_there = ap (λ (l : Bytes). ends (c.loop-len.self ++ l) 10) (sym line) ∙ sym c.end_line.ensures.ends ∙ c.if-end_line.true in
    (scan-ends c.loop-len.invariant.so_far c.in-Some.len (first-feed rest c.in-Some.len found) c.end_line.new.self more ends_there).1

pub loop-len-preserved : goal.loop-len-preserved
loop-len-preserved c =
    let rest = drop c.loop-len.done c.args.bytes.now in
    let all : take (length c.args.bytes.now - c.loop-len.done) rest ≡ rest = take_all (length c.args.bytes.now - c.loop-len.done) rest (omega (arith, length-drop c.loop-len.done c.args.bytes.now)) in
    let found : position (λ byte. byte == 10) rest ≡ Some c.in-Some.len = subst (λ l. position (λ byte. byte == 10) l ≡ Some c.in-Some.len) all (sym c.feed_at.ensures ∙ c.in-Some.is) in
    let feed = first-feed rest c.in-Some.len found in
    let line = c.split_at.ensures.front ∙ ap (take c.in-Some.len) all in
    let more = c.end_line.ensures.bytes ∙ ap (λ (l : Bytes). c.loop-len.self ++ (l ++ 10 ∷ [])) line in
    let goes_on = ap (λ (l : Bytes). ends (c.loop-len.self ++ l) 10) (sym line) ∙ sym c.end_line.ensures.ends ∙ c.if-end_line.false in
    record {
      within = omega (arith, feed.within, length-drop c.loop-len.done c.args.bytes.now);
      so_far = scan-line c.loop-len.invariant.so_far c.in-Some.len feed c.end_line.new.self more goes_on;
    }

pub begin_line-requires : goal.begin_line-requires
begin_line-requires c = no-feeds (take (length c.args.bytes.now - c.loop-len.done) (drop c.loop-len.done c.args.bytes.now)) (sym c.feed_at.ensures ∙ c.in_default.is)

pub returns-clause-end : goal.returns-clause-end
returns-clause-end c =
    let rest = drop c.loop-len.done c.args.bytes.now in
    let all : take (length c.args.bytes.now - c.loop-len.done) rest ≡ rest = take_all (length c.args.bytes.now - c.loop-len.done) rest (omega (arith, length-drop c.loop-len.done c.args.bytes.now)) in
    let none : position (λ byte. byte == 10) rest ≡ None = subst (λ l. position (λ byte. byte == 10) l ≡ None) all (sym c.feed_at.ensures ∙ c.in_default.is) in
    scan-all c.args.self.now c.args.bytes.now c.loop-len.self c.loop-len.done c.loop-len.invariant.so_far (no-feeds rest none)
