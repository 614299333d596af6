-- What a source offers, what putting it leaves of the party, and what hearing does to one (document 01, "A step of
-- party p").
-- Assumes nothing.
use Rattle.std.specs.Prelude.{ℕ, Bool, false, not, cond, ◌&&◌, ◌||◌, Option, Some}
use Rattle.message.specs.Meaning.{meaning_of}
use Rattle.role.specs.Roles.{role_heard}
use Rattle.service.specs.Service.{status, reported}
use Rattle.offer.specs.Offer.{byte, spent}
use Rattle.party.specs.Types.{Party, Byte, Kind, Command, Data, Status, Request, Strs}
use Rattle.party.specs.Parts.{with_source, with_held, with_request, with_role}
use Rattle.party.specs.Driving.{is_active}

-- "A party is a source if it is active, or if ATN is false and talk is on."
abbrev pub is_source : Bool → Party → Bool
is_source atn p = is_active p || (not atn && p.role.talk)

-- "Polled: ATN false, talk and poll mode on."
abbrev pub is_polled : Bool → Party → Bool
is_polled atn p = not atn && p.role.talk && p.role.poll

-- "a byte on offer (polled: the status byte, else the held byte)"
abbrev pub offer : Bool → Party → Option Byte
offer polled p = cond polled (Some (byte (status p.request) false)) p.held

-- The request once a byte of this kind is put: a status byte reports it (document 02, Q-5).
abbrev pub request_parted : Kind → Request → Request
request_parted Command q = q
request_parted Data q = q
request_parted Status q = reported q

-- The sender once it has put its byte. "put: to STRS, the byte stands, and leaves the held register if it came from
-- there"
abbrev pub parted : Kind → Party → Party
parted k p = with_source Strs (with_held (spent k p.held) (with_request (request_parted k p.request) p))

-- The party once it has heard a command, which changes its role (crates/role/specs/Roles.antt).
abbrev pub party_heard : ℕ → Party → Party
party_heard v p = with_role (role_heard (meaning_of v) p.role) p
