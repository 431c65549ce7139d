pub mod FromFiles
