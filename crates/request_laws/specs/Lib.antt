-- What a party that asks for service by its second request bit is sent in polls: the user's condition of document 02,
-- Q-5.
pub mod Requests
pub mod Examples
