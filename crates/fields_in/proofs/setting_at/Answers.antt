use Rattle.std.proofs.Common.{subst}
use Rattle.fields_in.proofs.Walk.{ByteIs, byte_is}
use Rattle.fields_in.proofs.Signs.{setting_minus, setting_minus_none, setting_plain, setting_plain_none}
use Rattle.fields_in.proofs.setting_at.Goals as goal

pub returns-in_err-value : goal.returns-in_err-value
returns-in_err-value c =
    let s = c.args.s.now in
    let minus = subst (ByteIs s c.args.at 45) c.if-eq.true (byte_is s c.args.at _ c.get.ensures.lookup _ _ c.eq.ensures) in
    rw c.from_residual.ensures (setting_minus_none s c.args.at minus c.in_err-value.ensures.s_value)

pub returns-then-eq : goal.returns-then-eq
returns-then-eq c =
    let s = c.args.s.now in
    let minus = subst (ByteIs s c.args.at 45) c.if-eq.true (byte_is s c.args.at _ c.get.ensures.lookup _ _ c.eq.ensures) in
    setting_minus s c.args.at minus _ _ c.in_ok-value.ensures.number_small c.in_ok-value.ensures.s_value

pub returns-in_err-value-2 : goal.returns-in_err-value-2
returns-in_err-value-2 c =
    let s = c.args.s.now in
    let plain = subst (ByteIs s c.args.at 45) c.if-eq.false (byte_is s c.args.at _ c.get.ensures.lookup _ _ c.eq.ensures) in
    rw c.from_residual-in_err-value-2.ensures (setting_plain_none s c.args.at plain c.in_err-value-2.ensures.s_value)

pub returns : goal.returns
returns c =
    let s = c.args.s.now in
    let plain = subst (ByteIs s c.args.at 45) c.if-eq.false (byte_is s c.args.at _ c.get.ensures.lookup _ _ c.eq.ensures) in
    setting_plain s c.args.at plain _ _ c.in_ok-value-2.ensures.number_small c.in_ok-value-2.ensures.s_value
