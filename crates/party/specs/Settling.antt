-- Attention, settling, reset and interface clear, of one party (document 01, "Attention and settling", "The host's
-- calls").
-- Assumes nothing.
use Rattle.std.specs.Prelude.{ℕ, Bool, true, false, cond, None}
use Rattle.role.specs.Roles.{with_mark, without_address, unaddressed, flags_off}
use Rattle.service.specs.Service.{request_settled, with_rsv2}
use Rattle.party.specs.Types.{Party, Control, Source, Sids, Sgns, Sdys, Strs, Acceptor, Aids}
use Rattle.party.specs.Types.{Anrs, Idle}
use Rattle.party.specs.Parts.{with_role, with_control, with_source, with_acceptor, with_held, with_request, held_bytes}
use Rattle.party.specs.Parts.{with_input, with_latches, with_feoi}
use Rattle.party.specs.Driving.{active, is_active}
use Rattle.party.specs.Sending.{is_source, is_polled}

-- "A party that becomes or stops being active loses its held byte (dropped)."
abbrev pub change_control : Control → Party → Party
change_control c p = with_held None (with_control c p)

-- "with ATN true the active party to AIDS, all others to ANRS; with ATN false listeners to ANRS, others to AIDS"
abbrev pub acceptor_attended : Bool → Control → Bool → Acceptor
acceptor_attended atn c listen = cond atn (cond (active c) Aids Anrs) (cond listen Anrs Aids)

-- "all sources to SIDS". Document 02, Q-3: "interface clear and every change of which party is active" clear its marks.
abbrev pub attended : Bool → Party → Party
attended atn p = with_role (with_mark (without_address p.role.mark) p.role)
    (with_source Sids (with_acceptor (acceptor_attended atn p.control p.role.listen) p))

-- "A non-source goes to SIDS ..; a source in SIDS to SGNS."
abbrev pub source_settled : Bool → Source → Source
source_settled true Sids = Sgns
source_settled true Sgns = Sgns
source_settled true Sdys = Sdys
source_settled true Strs = Strs
source_settled false s = Sids

-- A party after it settles, with ATN as the call left it.
abbrev pub settled : Bool → Party → Party
settled atn p = with_request (request_settled (is_polled atn p) p.request)
    (with_source (source_settled (is_source atn p) p.source) p)

-- "Reset: flags off, control idle, held byte dropped, data-in emptied, poll register kept". Document 02, Q-3: it clears
-- the marks too, "and so do reset, interface clear"; Q-5: "Reset clears rsv2."; Q-6: "reset removes an unused mark";
-- Q-8: "reset removes it and the mark", while the own status is "kept by reset".
abbrev pub wiped : Party → Party
wiped p = with_role (unaddressed p.role.name)
    (with_control Idle (with_held None (with_input None (with_request (with_rsv2 false p.request)
    (with_latches (with_feoi false p.latches) p)))))

-- "Interface clear: talk, listen and poll mode off everywhere, all control idle": a party that stops being active loses
-- its held byte. Attention follows, and drops the marks of Q-3.
abbrev pub cleared : Party → Party
cleared p = with_held (cond (is_active p) None p.held) (with_role (flags_off p.role) (with_control Idle p))

abbrev pub clear_drops : Party → ℕ
clear_drops p = cond (is_active p) (held_bytes p) 0
