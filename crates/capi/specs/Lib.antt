pub mod ForC
