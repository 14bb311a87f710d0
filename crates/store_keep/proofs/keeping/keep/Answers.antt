use Rattle.store_keep.proofs.{Common.{ap, arith, length, on_ok_weaker}, Opened.{add-tells, all-moments, all-stored, is-begun, overflow-told, rest-mid, told-overflows}}
use Rattle.store_keep.proofs.keeping.keep.Goals as goal

pub add_all-requires-clause-rest : goal.add_all-requires-clause-rest
add_all-requires-clause-rest g c =
    let image = c.in_ok-image.ensures in
    rest-mid c.args.disk.now image.settled image.bytes _ c.deref.ensures.value c.args.calls.now _ c.in_ok-found.ensures.holds _ _ c.in-Beginning.is

pub returns-in-Beginning-clause-all : goal.returns-in-Beginning-clause-all
returns-in-Beginning-clause-all g c =
    let image = c.in_ok-image.ensures in
    on_ok_weaker c.add_all.result
    (all-stored c.args.disk.now image.settled image.bytes _ c.deref.ensures.value c.args.calls.now _ c.in_ok-found.ensures.holds _ _ c.in-Beginning.is c.add_all.new.disk) c.add_all.ensures.all

pub returns-in-Beginning-clause-begun : goal.returns-in-Beginning-clause-begun
returns-in-Beginning-clause-begun g c =
    let image = c.in_ok-image.ensures in
    on_ok_weaker c.add_all.result
    (λ stored. is-begun c.args.disk.now image.settled image.bytes _ c.deref.ensures.value c.args.calls.now _ c.in_ok-found.ensures.holds _ _ c.in-Beginning.is) c.add_all.ensures.all

pub returns-in-Beginning-clause-any_moment : goal.returns-in-Beginning-clause-any_moment
returns-in-Beginning-clause-any_moment g c begun =
    let image = c.in_ok-image.ensures in
    all-moments c.args.disk.now image.settled image.bytes _ c.deref.ensures.value c.args.calls.now _ c.in_ok-found.ensures.holds _ _ c.in-Beginning.is
    c.requires.settled c.open_image.ensures.any_moment c.add_all.ensures.any_moment

pub returns-in-Beginning-clause-refused : goal.returns-in-Beginning-clause-refused
returns-in-Beginning-clause-refused g c =
    let image = c.in_ok-image.ensures in
    add-tells c.args.limit c.args.calls.now (g.D.Disk.content c.args.disk.now) c.add_all.result c.add_all.ensures.others
    (λ full.
    overflow-told c.args.disk.now image.settled image.bytes _ c.deref.ensures.value c.args.calls.now _ c.in_ok-found.ensures.holds _ _ c.in-Beginning.is c.args.limit (c.add_all.ensures.full full))

pub returns-in-Beginning-clause-fits : goal.returns-in-Beginning-clause-fits
returns-in-Beginning-clause-fits g c =
    let image = c.in_ok-image.ensures in
    on_ok_weaker c.add_all.result
    (λ fits full.
    fits (told-overflows c.args.disk.now image.settled image.bytes _ c.deref.ensures.value c.args.calls.now _ c.in_ok-found.ensures.holds _ _ c.in-Beginning.is c.args.limit full))
    c.add_all.ensures.fits

pub returns-in-Beginning-clause-within : goal.returns-in-Beginning-clause-within
returns-in-Beginning-clause-within g c =
    on_ok_weaker c.add_all.result (λ within. within (omega (arith, ap length c.in_ok-image.ensures.settled.gives, c.in_ok-image.ensures.within))) c.add_all.ensures.within
