-- What one party drives (document 01, "Lines" and "A party drives DAV in STRS, and ATN when it is active"; document 02,
-- Q-8).
-- Assumes nothing.
use Rattle.std.specs.Prelude.{ℕ, Bool, true, false}
use Rattle.role.specs.Roles.{answers_on}
use Rattle.party.specs.Types.{Control, Idle, Standby, Active, Source, Sids, Sgns, Sdys, Strs, Acceptor, Aids}
use Rattle.party.specs.Types.{Anrs, Acrs, Acds, Awns, Service, Nprs, Srqs, Aprs, Party}

-- "ATN: some party is active."
abbrev pub active : Control → Bool
active Idle = false
active Standby = false
active Active = true

abbrev pub is_active : Party → Bool
is_active p = active p.control

-- "DAV: some source in STRS."
abbrev pub dav_at : Source → Bool
dav_at Sids = false
dav_at Sgns = false
dav_at Sdys = false
dav_at Strs = true

abbrev pub drives_dav : Party → Bool
drives_dav p = dav_at p.source

-- "NRFD: some acceptor in ANRS, ACDS or AWNS."
abbrev pub nrfd_at : Acceptor → Bool
nrfd_at Aids = false
nrfd_at Anrs = true
nrfd_at Acrs = false
nrfd_at Acds = true
nrfd_at Awns = true

abbrev pub drives_nrfd : Party → Bool
drives_nrfd p = nrfd_at p.acceptor

-- "NDAC: some acceptor in ANRS, ACRS or ACDS."
abbrev pub ndac_at : Acceptor → Bool
ndac_at Aids = false
ndac_at Anrs = true
ndac_at Acrs = true
ndac_at Acds = true
ndac_at Awns = false

abbrev pub drives_ndac : Party → Bool
drives_ndac p = ndac_at p.acceptor

-- "SRQ: some service in SRQS."
abbrev pub srq_at : Service → Bool
srq_at Nprs = false
srq_at Srqs = true
srq_at Aprs = false

abbrev pub drives_srq : Party → Bool
drives_srq p = srq_at p.request.service

-- Does it answer a parallel poll on line k, counted from 0: a "configured party on it has a status equal to its sense".
abbrev pub answers_poll : ℕ → Party → Bool
answers_poll k p = answers_on k p.latches.ist p.role.response
