use Rattle.talk_server.proofs.{Common.{◌<◌, ◌∙◌, ◌≡◌, ◌≤◌, false, is_blank, length, MAX_ITEM, on_ok_weaker, sym}, Answering.{long-by, long-told, short-by, unended-told}}
use Rattle.talk_server.proofs.responding.ServerResponder.close.Goals as goal

pub returns-then-is_too_long : goal.returns-then-is_too_long
returns-then-is_too_long g c = λ first ps rest s.
    let own = c.args.self.now.item in
    let long : MAX_ITEM < length own = long-by c.is_too_long.result own c.is_too_long.ensures c.if-is_too_long.true in
    let some : is_blank own ≡ false = sym c.is_blank.ensures ∙ c.if-is_blank.false in
    on_ok_weaker c.refuse_next.result (long-told g.H.Holder.rules rest own c.args.text.now.items c.refuse_next.new.text.items s.begun_with some long) c.refuse_next.ensures

pub returns : goal.returns
returns g c = λ first ps rest s.
    let own = c.args.self.now.item in
    let short : length own ≤ MAX_ITEM = short-by c.is_too_long.result own c.is_too_long.ensures c.if-is_too_long.false in
    let some : is_blank own ≡ false = sym c.is_blank.ensures ∙ c.if-is_blank.false in
    on_ok_weaker c.refuse_next-2.result (unended-told g.H.Holder.rules rest own c.args.text.now.items c.refuse_next-2.new.text.items s.begun_with some short) c.refuse_next-2.ensures
