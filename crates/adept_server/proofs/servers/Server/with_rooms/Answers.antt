use Rattle.adept_server.proofs.{Common.{◌≡◌, Desk, false, length, refl, replicate, rules}, Founding.{first_desk_is, first_desk_of}}
use Rattle.adept_server.proofs.servers.Server.with_rooms.Goals as goal

pub returns : goal.returns
returns c =
    let counts = c.args.cases.now in
    let flags : c.in_ok-defined.defined.items ≡ replicate (length counts) false = search rules in
    let desk : Desk = record { number = 0; made = 1; taken = 0; defined = c.in_ok-defined.defined; kinds = c.in_ok-kinds.first_kinds; cases = c.in_ok-rows.first_rows } in
    record {
      desk = first_desk_of counts desk refl refl refl flags c.in_ok-kinds.ensures.firsts c.in_ok-rows.ensures.firsts c.requires c.in_ok-kinds.ensures.cells c.in_ok-rows.ensures.cells;
      first = first_desk_is counts desk refl refl refl flags c.in_ok-kinds.ensures.firsts c.in_ok-rows.ensures.firsts;
    }
