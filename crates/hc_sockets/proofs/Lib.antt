pub mod SocketLemmas
