pub mod Renderings
pub mod Peers
pub mod Origins
pub mod Agreement
pub mod Clients
pub mod Upstreams
pub mod Offers
pub mod Offering
