-- The proofs about the runner. A page on the argument, in the order of the files.
--
-- Members, Longest. A tie order with the waits is an order again (`goes_orders`), so that exactly one place goes before
-- all others, and the fold of the definition finds it (`best`): it has waited longest in so many words
-- (`longest_waiting_lem`).
--
-- Queue, Rota, InOrder. The places in the order in which they will have their turns are a queue. A turn takes the first
-- and puts it last (`moved`): all others have waited for one turn more, so among them nothing changes. Turning the
-- queue over and over is round robin, and equal waiting begins with the queue in the tie order.
--
-- Sorting, ByAddress. By numbers and then by an order is an order again, so by address is one. A key has all that its
-- place is ordered by. The keys taken down place by place are those of the order, and two ascending lists of the same
-- numbers are one list, so sorting them gives the order.
--
-- Lists, Led, Counts, Giving. Lists in which runs stand for their steps, so that every bus there is keeps the
-- invariant; what the counts say; and how far the loop of the code has come.
-- Assumes nothing.
pub mod Examples
pub mod Members
pub mod Longest
pub mod Queue
pub mod Rota
pub mod Sorting
pub mod InOrder
pub mod ByAddress
pub mod Lists
pub mod Led
pub mod Counts
pub mod Giving
